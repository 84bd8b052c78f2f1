-- The search visits what chains lead to, place by place.
use Rattle.std.proofs.Common.{◌∙◌, ap, arith}
use Rattle.mk_subject.specs.Carried.{carried}
use Rattle.mk_subject.specs.Subject.{footprints}
use Rattle.mk_graph_search.specs.Places.{SearchInput}
use Rattle.mk_graph_search.specs.Ways.{successors}
use Rattle.mk_find_evidence.proofs.Chains.{ended, ended_low, holds_all, holds_more, place_low, ran_out}
use Rattle.mk_find_evidence.proofs.stale.carried_closure.Goals as goal

pub insert-requires : goal.insert-requires
insert-requires c =
    let x = c.args.subject.now in
    let carries = c.carried_exactly.ensures x c.graph-graph.ensures.graph in
    let place = c.loop-search.place in
    let at = ended (carried x) c.loop-search.search c.args.t place c.loop-search.invariant.rows c.loop-search.invariant.start c.in_ok-number.field-0 c.in_ok-number.ensures.found c.in-Some.number c.in-Some.is in
    let low = ended_low x.graph (footprints x.setting) (carried x) carries c.args.t place c.in-Some.number c.requires at in
    let few = c.graph-graph.ensures.graph.few in
    omega (arith, low, few)

pub overflow_add-place : goal.overflow_add-place
overflow_add-place c =
    let x = c.args.subject.now in
    let carries = c.carried_exactly.ensures x c.graph-graph.ensures.graph in
    let place = c.loop-search.place in
    let at = ended (carried x) c.loop-search.search c.args.t place c.loop-search.invariant.rows c.loop-search.invariant.start c.in_ok-number.field-0 c.in_ok-number.ensures.found c.in-Some.number c.in-Some.is in
    let low = place_low x.graph (footprints x.setting) (carried x) carries c.places_are_below.ensures c.args.t place c.in-Some.number c.requires at in
    let few = c.graph-graph.ensures.graph.few in
    omega (arith, low, few)

pub loop-search-smaller : goal.loop-search-smaller
loop-search-smaller c =
    let x = c.args.subject.now in
    let carries = c.carried_exactly.ensures x c.graph-graph.ensures.graph in
    let place = c.loop-search.place in
    let at = ended (carried x) c.loop-search.search c.args.t place c.loop-search.invariant.rows c.loop-search.invariant.start c.in_ok-number.field-0 c.in_ok-number.ensures.found c.in-Some.number c.in-Some.is in
    let low = place_low x.graph (footprints x.setting) (carried x) carries c.places_are_below.ensures c.args.t place c.in-Some.number c.requires at in
    omega (arith, low)

pub loop-search-preserved : goal.loop-search-preserved
loop-search-preserved c =
    let x = c.args.subject.now in
    let carries = c.carried_exactly.ensures x c.graph-graph.ensures.graph in
    let place = c.loop-search.place in
    let at = ended (carried x) c.loop-search.search c.args.t place c.loop-search.invariant.rows c.loop-search.invariant.start c.in_ok-number.field-0 c.in_ok-number.ensures.found c.in-Some.number c.in-Some.is in
    record {
      rows = λ n. ap (λ (task : SearchInput). successors task.rows n) c.in_ok-number.ensures.same ∙ c.loop-search.invariant.rows n;
      start = ap (λ (task : SearchInput). task.start) c.in_ok-number.ensures.same ∙ c.loop-search.invariant.start;
      holds = holds_more x.graph (footprints x.setting) (carried x) carries c.one_way_at_a_place.ensures c.args.t place c.in-Some.number c.loop-search.set c.insert.new.self c.loop-search.invariant.holds at c.insert.ensures;
    }

pub returns : goal.returns
returns c =
    let x = c.args.subject.now in
    let carries = c.carried_exactly.ensures x c.graph-graph.ensures.graph in
    let place = c.loop-search.place in
    let few = ran_out (carried x) c.loop-search.search c.args.t place c.loop-search.invariant.rows c.loop-search.invariant.start c.in_ok-number.field-0 c.in_ok-number.ensures.found c.in_default.is in
    holds_all x.graph (footprints x.setting) (carried x) carries c.none_by_places.ensures c.args.t place c.loop-search.set c.loop-search.invariant.holds few
