use Rattle.std.proofs.Common.{◌≡◌, ◌∙◌, ◌<◌, ◌≤◌, ◌++◌, ◌∷◌, [], List, ℕ, sym, ap, length, map, arith}
use Rattle.std.specs.Prelude.{filter, Vec}
use Rattle.std.specs.declared.alloc.Global.{Global}
use Rattle.mk_lemmas.proofs.Texts.{texts}
use Rattle.mk_infer_select.specs.Walked.{has_numbers}
use Rattle.mk_infer_select.proofs.GroupLists.{at_first, left_closes, left_grows, left_ends}
use Rattle.mk_infer_select.proofs.groups.cut_groups.Goals as goal
use Rattle.mk_infer_select.proofs.groups.cut_groups.Goals.{then-eq+in_ok-push_group, else-eq+in_ok-push}

pub loop-word-init : goal.loop-word-init
loop-word-init c = rw (c.new-groups.ensures.items, c.in_ok-group.ensures.items) (at_first c.args.met.now (texts c.args.words.now))

pub loop-word-preserved : goal.loop-word-preserved
loop-word-preserved c =
    let lt : c.loop-word.word-index < length c.args.words.now = omega arith in
    let closed : Vec (Vec ℕ Global) Global → List (List ℕ) = λ groups. map (λ (group : Vec ℕ Global). group.items) groups.items in
    elim c.if-eq.branch [
      | then-eq+in_ok-push_group w ↦ (
          let shut : closed c.if-eq.groups ≡ closed c.loop-word.groups ++ filter has_numbers (c.loop-word.group.items ∷ []) =
          ap closed w.groups-is ∙ (w.in_ok-push_group.ensures ∙ ap (λ (g : Vec ℕ Global). closed c.loop-word.groups ++ filter has_numbers (g.items ∷ [])) w.replace-closed.ensures.value) in
          let begun : c.if-eq.group.items ≡ [] = ap (λ (g : Vec ℕ Global). g.items) (w.group-is ∙ w.replace-closed.ensures.after) ∙ w.new.ensures.items in
          rw begun (left_closes c.args.met.now (closed c.loop-word.groups) (closed c.if-eq.groups) c.loop-word.group.items c.args.words.now c.loop-word.word-index _ _ (sym c.eq.ensures ∙ w.if-eq.true) shut c.loop-word.invariant lt))
      | else-eq+in_ok-push w ↦ (
          let same : closed c.if-eq.groups ≡ closed c.loop-word.groups = ap closed w.groups-is in
          let more : c.if-eq.group.items ≡ c.loop-word.group.items ++ w.number_of.result ∷ [] = ap (λ (g : Vec ℕ Global). g.items) w.group-is ∙ w.in_ok-push.ensures.items in
          rw same (left_grows c.args.met.now (closed c.loop-word.groups) c.loop-word.group.items c.if-eq.group.items c.args.words.now c.loop-word.word-index w.number_of.result _ _ (sym c.eq.ensures ∙ w.if-eq.false) more w.number_of.ensures c.loop-word.invariant lt))
    ]

pub returns : goal.returns
returns c =
    let le : length c.args.words.now ≤ c.loop-word.word-index = omega arith in
    left_ends c.args.met.now (map (λ group. group.items) c.loop-word.groups.items) _ c.loop-word.group.items c.args.words.now c.loop-word.word-index _ c.in_ok-push_group-2.ensures c.loop-word.invariant le
