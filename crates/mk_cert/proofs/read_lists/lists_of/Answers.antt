use Rattle.std.proofs.Common.{◌≡◌, ◌≤◌, ◌∷◌, ◌∙◌, ℕ, List, [], true, false, length, map, ap, sym, length-append, arith}
use Rattle.std.specs.Prelude.{◌↔◌}
use Rattle.std.specs.String.{string_bytes}
use Rattle.mk_lines.specs.Names.{has_name}
use Rattle.mk_graph.specs.declared.node.Node.{Node}
use Rattle.mk_graph.specs.Membership.{Has}
use Rattle.mk_build.specs.Setting as build
use Rattle.mk_subject.specs.Records.{Recorded}
use Rattle.mk_subject.specs.Subject.{footprints}
use Rattle.mk_subject.proofs.Decided.{has_decides}
use Rattle.mk_subject.proofs.Past.{past_reads}
use Rattle.mk_subject.proofs.Rows.{rows_push, rows_all}
use Rattle.mk_cert.proofs.read_lists.lists_of.Goals as goal

pub loop-number-preserved : goal.loop-number-preserved
loop-number-preserved c =
    let g = c.args.graph.now in
    let s = footprints c.args.setting.now in
    let rows = c.loop-number.lists.items in
    let row = c.new-in-loop-number.result in
    let pushed = c.in_ok-push.ensures.items in
    let files : map string_bytes c.reads_of.result.now ≡ build.reads g s c.loop-number.number = c.reads_of.ensures ∙ ap (λ (r : Recorded). build.reads r.graph (footprints r.setting) c.loop-number.number) c.in_ok-records.ensures in
    let here : (f : List ℕ) → (has_name row f ≡ true) ↔ Has (build.reads g s c.loop-number.number) f =
    λ f. let same : has_name row f ≡ has_name (build.reads g s c.loop-number.number) f = ap (λ (fs : List (List ℕ)). has_name fs f) c.new-in-loop-number.ensures ∙ ap (λ (fs : List (List ℕ)). has_name fs f) files in
    let decides = has_decides (build.reads g s c.loop-number.number) f in
    ((λ t. decides.0 (sym same ∙ t)), (λ h. same ∙ decides.1 h)) in
    record {
      many = omega (arith, ap (λ (l : List (List (List ℕ))). length l) pushed, length-append rows (row ∷ []), c.loop-number.invariant.many);
      held = rows_push (λ (t : ℕ) (set : List (List ℕ)). (f : List ℕ) → (has_name set f ≡ true) ↔ Has (build.reads g s t) f) rows c.push.new.self.items row [] c.loop-number.number pushed (sym c.loop-number.invariant.many) c.loop-number.invariant.held here;
    }

pub returns : goal.returns
returns c =
    let g = c.args.graph.now in
    let s = footprints c.args.setting.now in
    let rows = c.loop-number.lists.items in
    rows_all (λ (t : ℕ) (set : List (List ℕ)). (f : List ℕ) → (has_name set f ≡ true) ↔ Has (build.reads g s t) f) rows [] c.loop-number.invariant.held
    (λ t high.
    let past : length g.nodes ≤ t = omega (arith, c.loop-number.invariant.many, c.loop-number-test.false, ap (λ (l : List Node). length l) c.nodes-count.ensures.value) in
    λ f. ((λ b. absurd (let e : false ≡ true = b in cc)), (λ h. absurd (past_reads g s t past f h))))
