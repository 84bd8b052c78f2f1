use Rattle.std.proofs.Common.{List, ℕ, Vec, Global, length, subst, sym, ◌++◌, ◌<◌}
use Rattle.std.specs.Prelude.{IfOk}
use Rattle.mk_subject.specs.Subject.{footprints}
use Rattle.mk_graph.specs.Graph.{Graph, prerequisites}
use Rattle.mk_graph.specs.Membership.{Has}
use Rattle.mk_graph.specs.Progress.{row}
use Rattle.mk_build_needs.specs.NeedsGraph.{IsFirstCycle, with_prerequisites}
use Rattle.mk_core_repair.proofs.NeedRows.{row_within}
use Rattle.mk_core_repair.proofs.needing.cycle_of_needs.Goals as goal

pub first_cycle-requires : goal.first_cycle-requires
first_cycle-requires c =
    let x = c.args.subject.now in
    let rows = c.in_ok-rows.rows.items in
    let within = row_within c.needs_are_these.ensures x.graph (footprints x.setting) c.graph.ensures.graph rows c.in_ok-rows.ensures.count c.in_ok-rows.ensures.rows in
    subst (λ (l : List (Vec ℕ Global)). (n p : ℕ) → Has (row l n) p → p < length c.graph.result.now.nodes) (sym c.deref.ensures.value)
    (subst (λ (g : Graph). (n p : ℕ) → Has (row rows n) p → p < length g.nodes) (sym c.graph.ensures.value) within)

pub returns : goal.returns
returns c =
    let x = c.args.subject.now in
    let rows = c.in_ok-rows.rows.items in
    let found = c.first_cycle.result in
    let same = c.rows_give_needs.ensures x.graph (footprints x.setting) rows c.in_ok-rows.ensures.rows in
    subst (λ (h : Graph). IfOk found (λ cycle. IsFirstCycle h cycle)) same
    (subst (λ (g : Graph). IfOk found (λ cycle. IsFirstCycle (with_prerequisites g (λ n. prerequisites g n ++ row rows n)) cycle)) c.graph.ensures.value
    (subst (λ (l : List (Vec ℕ Global)). IfOk found (λ cycle. IsFirstCycle (with_prerequisites c.graph.result.now (λ n. prerequisites c.graph.result.now n ++ row l n)) cycle)) c.deref.ensures.value c.first_cycle.ensures))
