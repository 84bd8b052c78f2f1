use Rattle.std.proofs.Common.{◌≡◌, ◌∙◌, [], List, ℕ, Vec, Global, length, map, subst, sym, ap, arith, ◌++◌, ◌<◌}
use Rattle.std.specs.Vec.{vec_len}
use Rattle.std.specs.Prelude.{IfOk}
use Rattle.std.proofs.lemmas.Bool.{eqb-true}
use Rattle.std.proofs.lemmas.List.{nil_from_length}
use Rattle.mk_graph.specs.Graph.{Graph, prerequisites}
use Rattle.mk_graph.specs.Membership.{Has}
use Rattle.mk_graph.specs.Progress.{row}
use Rattle.mk_build_needs.specs.NeedsGraph.{IsFirstCycle, with_prerequisites}
use Rattle.mk_claims.specs.Offers.{graph_with, offer_view, open_words, step_view}
use Rattle.mk_claims.proofs.NoSteps.{no_steps}
use Rattle.mk_claims.proofs.OfferRows.{rows_given, rows_within}
use Rattle.mk_claims.proofs.offer.cycle_with.Goals as goal

pub returns-then-is_empty : goal.returns-then-is_empty
returns-then-is_empty c =
    let vec = c.in_ok-steps.steps in
    let steps = vec.items in
    let many : length steps ≡ vec_len vec = let ok = vec.ok.0 in omega (arith, ok) in
    let empty : steps ≡ [] = nil_from_length steps (many ∙ eqb-true (vec_len vec) 0 (sym c.is_empty.ensures ∙ c.if-is_empty.true)) in
    no_steps c.closes_only_cycles.ensures c.walk_has_an_end.ensures c.args.graph.now c.nodes-nodes.ensures.graph (open_words (map offer_view c.args.offers.now)) (sym c.in_ok-steps.ensures ∙ ap (map step_view) empty)

pub first_cycle-requires : goal.first_cycle-requires
first_cycle-requires c =
    let g = c.args.graph.now in
    let words = open_words (map offer_view c.args.offers.now) in
    let rows = c.in_ok-rows.rows.items in
    let steps = ap (map step_view) c.deref.ensures.value ∙ c.in_ok-steps.ensures in
    let are = rows_given g words rows c.nodes-nodes.result.now (map step_view c.deref.result.now) c.in_ok-rows.ensures.count c.in_ok-rows.ensures.rows c.nodes-nodes.ensures.value steps in
    subst (λ (l : List (Vec ℕ Global)). (n p : ℕ) → Has (row l n) p → p < length g.nodes) (sym c.deref-2.ensures.value) (rows_within g words rows are)

pub returns : goal.returns
returns c =
    let g = c.args.graph.now in
    let offers = map offer_view c.args.offers.now in
    let words = open_words offers in
    let rows = c.in_ok-rows.rows.items in
    let found = c.first_cycle.result in
    let steps = ap (map step_view) c.deref.ensures.value ∙ c.in_ok-steps.ensures in
    let are = rows_given g words rows c.nodes-nodes.result.now (map step_view c.deref.result.now) c.in_ok-rows.ensures.count c.in_ok-rows.ensures.rows c.nodes-nodes.ensures.value steps in
    let same : with_prerequisites g (λ n. prerequisites g n ++ row rows n) ≡ graph_with g words = λ i. with_prerequisites g (λ n. prerequisites g n ++ are n i) in
    subst (λ (h : Graph). IfOk found (λ cycle. IsFirstCycle h cycle)) same
    (subst (λ (l : List (Vec ℕ Global)). IfOk found (λ cycle. IsFirstCycle (with_prerequisites g (λ n. prerequisites g n ++ row l n)) cycle)) c.deref-2.ensures.value c.first_cycle.ensures)
