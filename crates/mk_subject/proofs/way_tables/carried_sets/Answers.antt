use Rattle.std.proofs.Common.{◌≤◌, ◌∷◌, ◌∙◌, ℕ, List, [], length, ap, sym, length-append, arith}
use Rattle.std.specs.Prelude.{◌↔◌}
use Rattle.mk_graph.specs.declared.node.Node.{Node}
use Rattle.mk_graph.specs.Graph.{Graph}
use Rattle.mk_graph.specs.Membership.{Has}
use Rattle.mk_build.specs.Ways.{Carries}
use Rattle.mk_subject.specs.Subject.{footprints}
use Rattle.mk_subject.proofs.Past.{past_carries}
use Rattle.mk_subject.proofs.Rows.{rows_push, rows_all}
use Rattle.mk_subject.proofs.way_tables.carried_sets.Goals as goal

pub loop-number-preserved : goal.loop-number-preserved
loop-number-preserved c =
    let g = c.args.subject.now.graph in
    let s = footprints c.args.subject.now.setting in
    let rows = c.loop-number.sets.items in
    let row = c.in_ok-carried_at.field-0 in
    let pushed = c.in_ok-push.ensures.items in
    record {
      many = omega (arith, ap (λ (l : List (List ℕ)). length l) pushed, length-append rows (row ∷ []), c.loop-number.invariant.many);
      held = rows_push (λ (t : ℕ) (set : List ℕ). (o : ℕ) → Has set o ↔ Carries g s t o) rows c.push.new.self.items row [] c.loop-number.number pushed (sym c.loop-number.invariant.many) c.loop-number.invariant.held c.in_ok-carried_at.ensures;
    }

pub returns : goal.returns
returns c =
    let g = c.args.subject.now.graph in
    let s = footprints c.args.subject.now.setting in
    let rows = c.loop-number.sets.items in
    let nodes = c.nodes-count.ensures.value ∙ ap (λ (k : Graph). k.nodes) c.graph.ensures.value in
    rows_all (λ (t : ℕ) (set : List ℕ). (o : ℕ) → Has set o ↔ Carries g s t o) rows [] c.loop-number.invariant.held
    (λ t high.
    let past : length g.nodes ≤ t = omega (arith, c.loop-number.invariant.many, c.loop-number-test.false, ap (λ (l : List Node). length l) nodes) in
    λ o. ((λ h. absurd h), (λ h. absurd (past_carries g s t past o h))))
