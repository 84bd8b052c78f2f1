use Rattle.std.proofs.Common.{◌≡◌, ◌∙◌, ◌++◌, ◌∷◌, [], ◌≤◌, List, ℕ, cond, false, true, length, map, reverse, ap, sym, subst, arith}
use Rattle.std.specs.Prelude.{option_to_list}
use Rattle.std.proofs.lemmas.Bool.{not-false, not-true}
use Rattle.std.proofs.lemmas.List.{length-map, map_push, nil_from_length}
use Rattle.mk_lemmas.proofs.Texts.{texts}
use Rattle.mk_read.specs.Names.{has_name}
use Rattle.mk_infer.specs.Selection.{needs}
use Rattle.mk_infer.specs.Choosing.{ResolvedRule}
use Rattle.mk_infer_select.specs.Walked.{VisitedName, met_of}
use Rattle.mk_infer.specs.Table.{prerequisites_in}
use Rattle.mk_infer_select.proofs.Keeping.{walked_all, walked_enough}
use Rattle.mk_infer_select.proofs.Walking.{walk_start, walk_known, walk_new, less_new}
use Rattle.mk_infer_select.proofs.walk.walk_from.Goals as goal

pub loop-name-init : goal.loop-name-init
loop-name-init c = record {
  onward = walk_start _ c.in_ok-names.names c.args.goals.now c.reverse.new.self.items c.in_ok-names.ensures (c.reverse.ensures.items ∙ ap reverse c.in_ok-todo.ensures.items);
  few = subst (λ (names : List (List ℕ)). length names ≤ 4096) (sym c.in_ok-names.ensures) (omega arith);
  made = c.in_ok-met.ensures.items ∙ ap (map (met_of c.args.choices.now.makefile c.args.choices.now.exists)) (sym c.in_ok-names.ensures);
}

pub loop-name-preserved : goal.loop-name-preserved
loop-name-preserved c =
    let m = c.args.choices.now.makefile in
    let e = c.args.choices.now.exists in
    let name = c.in-Some.name in
    let names = c.loop-name.names in
    let unmet : has_name names name.now ≡ false = not-true _ (sym c.in_ok-insert.ensures.new ∙ c.if-not-branch.false) in
    let grown : c.insert.new.self ≡ names ++ name.now ∷ [] = c.in_ok-insert.ensures.ok ∙ ap (λ b. cond b names (names ++ name.now ∷ [])) unmet in
    let words : texts c.in_ok-words.words.items ≡ needs m e name.now = c.in_ok-words.ensures ∙ ap (λ (k : ResolvedRule). option_to_list k.choice ++ prerequisites_in k.rules) (c.maker.view_is ∙ c.in_ok-maker.ensures) in
    let pushed : c.extend_from_slice.new.self.items ≡ c.pop.new.self.items ++ reverse c.in_ok-words.words.items =
    c.in_ok-extend_from_slice.ensures.items ∙ ap (λ ws. c.pop.new.self.items ++ ws) (c.deref.ensures.value ∙ c.reverse-in-Some.ensures.items) in
    let one : ResolvedRule → VisitedName = λ k. record { name = name.now; making = k } in
    record {
      onward = walk_new (needs m e) names c.insert.new.self _ c.loop-name.todo.items c.pop.new.self.items c.in_ok-words.words.items c.extend_from_slice.new.self.items name c.in-Some.ensures.items unmet grown words pushed c.loop-name.invariant.onward;
      few = let count : length c.as_slice.result.now ≡ length c.insert.new.self = sym (length-map c.as_slice.result.now (λ n. n.now)) ∙ ap length c.as_slice.ensures in omega arith;
      made = c.in_ok-push.ensures.items ∙ (ap (λ (ms : List VisitedName). ms ++ one c.in_ok-maker.maker ∷ [])
          c.loop-name.invariant.made ∙ (ap (λ (k : ResolvedRule). map (met_of m e) names ++ one k ∷ [])
          c.in_ok-maker.ensures ∙ sym (ap (map (met_of m e)) grown ∙ map_push (met_of m e) names name.now)));
    }

pub loop-name-preserved-then-not-branch : goal.loop-name-preserved-then-not-branch
loop-name-preserved-then-not-branch c =
    let m = c.args.choices.now.makefile in
    let e = c.args.choices.now.exists in
    let name = c.in-Some.name in
    let names = c.loop-name.names in
    let there : has_name names name.now ≡ true = not-false _ (sym c.in_ok-insert.ensures.new ∙ c.if-not-branch.true) in
    let same : c.insert.new.self ≡ names = c.in_ok-insert.ensures.ok ∙ ap (λ b. cond b names (names ++ name.now ∷ [])) there in
    record {
      onward = walk_known (needs m e) names c.insert.new.self _ c.loop-name.todo.items c.pop.new.self.items name c.in-Some.ensures.items there same c.loop-name.invariant.onward;
      few = subst (λ (ns : List (List ℕ)). length ns ≤ 4096) (sym same) c.loop-name.invariant.few;
      made = c.loop-name.invariant.made ∙ ap (map (met_of m e)) (sym same);
    }

pub loop-name-smaller : goal.loop-name-smaller
loop-name-smaller c =
    let m = c.args.choices.now.makefile in
    let e = c.args.choices.now.exists in
    let name = c.in-Some.name in
    let names = c.loop-name.names in
    let unmet : has_name names name.now ≡ false = not-true _ (sym c.in_ok-insert.ensures.new ∙ c.if-not-branch.false) in
    let grown : c.insert.new.self ≡ names ++ name.now ∷ [] = c.in_ok-insert.ensures.ok ∙ ap (λ b. cond b names (names ++ name.now ∷ [])) unmet in
    let words : texts c.in_ok-words.words.items ≡ needs m e name.now = c.in_ok-words.ensures ∙ ap (λ (k : ResolvedRule). option_to_list k.choice ++ prerequisites_in k.rules) (c.maker.view_is ∙ c.in_ok-maker.ensures) in
    let pushed : c.extend_from_slice.new.self.items ≡ c.pop.new.self.items ++ reverse c.in_ok-words.words.items =
    c.in_ok-extend_from_slice.ensures.items ∙ ap (λ ws. c.pop.new.self.items ++ ws) (c.deref.ensures.value ∙ c.reverse-in-Some.ensures.items) in
    less_new c.new_names_leave_less.ensures m e names c.insert.new.self c.loop-name.todo.items c.pop.new.self.items c.in_ok-words.words.items c.extend_from_slice.new.self.items name c.in-Some.ensures.items unmet grown words pushed

pub returns-then-as_slice-gt-MAX_NODES : goal.returns-then-as_slice-gt-MAX_NODES
returns-then-as_slice-gt-MAX_NODES c =
    let m = c.args.choices.now.makefile in
    let e = c.args.choices.now.exists in
    let name = c.in-Some.name in
    let names = c.loop-name.names in
    let unmet : has_name names name.now ≡ false = not-true _ (sym c.in_ok-insert.ensures.new ∙ c.if-not-branch.false) in
    let grown : c.insert.new.self ≡ names ++ name.now ∷ [] = c.in_ok-insert.ensures.ok ∙ ap (λ b. cond b names (names ++ name.now ∷ [])) unmet in
    let count : length c.as_slice.result.now ≡ length c.insert.new.self = sym (length-map c.as_slice.result.now (λ n. n.now)) ∙ ap length c.as_slice.ensures in
    walked_enough m e c.args.goals.now names c.loop-name.met.items c.loop-name.invariant.made c.walk_goes_on.ensures c.insert.new.self c.loop-name.todo.items c.pop.new.self.items name c.in-Some.ensures.items unmet grown c.loop-name.invariant.few (omega arith) c.loop-name.invariant.onward

pub returns : goal.returns
returns c =
    let none : c.loop-name.todo.items ≡ [] = nil_from_length _ (omega (arith, c.in_default.ensures.cases, c.loop-name.todo.ok.0)) in
    walked_all c.args.choices.now.makefile c.args.choices.now.exists c.args.goals.now c.loop-name.names c.loop-name.met.items c.loop-name.invariant.made c.loop-name.todo.items none c.loop-name.invariant.few c.loop-name.invariant.onward
