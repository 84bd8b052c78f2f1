-- The walk over open groups comes through, and finishes free nodes in the order of a turn list.
use Rattle.std.proofs.Common.{ℕ, List, reverse, ap, sym, subst, ◌∙◌}
use Rattle.std.proofs.lemmas.Bool.{false≢true}
use Rattle.mk_graph.specs.Graph.{Graph}
use Rattle.mk_graph.specs.declared.walk.End.TheVariants.{Order, Cycle}
use Rattle.mk_graph.specs.Progress.{row}
use Rattle.mk_graph.specs.Schedules.{Before, IsScheduleWithout}
use Rattle.mk_graph.specs.Without.{until}
use Rattle.mk_graph.proofs.TurnPast.{kept, leads_past, no_path}
use Rattle.mk_graph.proofs.TurnLoops.{walked_rows}
use Rattle.mk_graph.proofs.schedule.schedule_without.Goals as goal

pub returns-in-Order : goal.returns-in-Order
returns-in-Order c =
    let g = c.args.graph.now in
    let not_before = λ (b : Before g c.args.o c.args.t). false≢true (sym c.if-before.false ∙ c.before-2.ensures.1 (subst (λ (k : Graph). Before k c.args.o c.args.t) (sym c.new.ensures) b)) in
    let w = walked_rows g c.in_ok-rows.rows.items c.deref.result.now c.goals.result.now c.in_ok-order.field-0 (Order c.in-Order.order) c.deref.ensures.value c.goals.ensures.value c.in-Order.is c.in_ok-order.ensures in
    let past = leads_past g c.goals.ensures.graph c.args.o c.args.t c.free_of-free.result c.free_of-free.ensures not_before (row c.in_ok-rows.rows.items) c.in_ok-rows.ensures.rows c.in-Order.order.items w in
    subst (λ (l : List ℕ). IsScheduleWithout g c.args.o c.args.t (reverse l)) (sym (c.in_ok-free_until-in-Order.ensures ∙ ap (λ (l : List ℕ). until c.args.t (kept c.free_of-free.result l)) c.deref-in-Order.ensures.value)) past

pub returns : goal.returns
returns c =
    let g = c.args.graph.now in
    let w = walked_rows g c.in_ok-rows.rows.items c.deref.result.now c.goals.result.now c.in_ok-order.field-0 (Cycle c.in-Cycle.field-0) c.deref.ensures.value c.goals.ensures.value c.in-Cycle.is c.in_ok-order.ensures in
    absurd (no_path g c.goals.ensures.graph c.args.o c.free_of-free.result c.free_of-free.ensures (row c.in_ok-rows.rows.items) c.in_ok-rows.ensures.rows c.in-Cycle.field-0.items w)
