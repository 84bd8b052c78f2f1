-- No path ends at an earlier place, and the recipe at each place is a node.
use Rattle.std.proofs.Common.{◌∙◌, arith}
use Rattle.mk_find.proofs.Trying.{none_here, place_low, ended, ran_out}
use Rattle.mk_find.proofs.first_path.go_on_to_end.Goals as goal

pub returns-in-Some-finish_at-clause-found : goal.returns-in-Some-finish_at-clause-found
returns-in-Some-finish_at-clause-found c =
    let x = c.args.subject.now in
    let first = c.args.search.now in
    let place = c.loop-number.place in
    record {
      number = c.in-Some.number;
      there = ended x c.loop-number.search first c.loop-number.invariant.0 c.requires.rows place c.in_ok-number.field-0 c.in-Some.number c.in-Some.is c.in_ok-number.ensures.found;
      first = c.in-Some-finish_at.ensures;
    }

pub overflow_add-place : goal.overflow_add-place
overflow_add-place c =
    let x = c.args.subject.now in
    let first = c.args.search.now in
    let place = c.loop-number.place in
    let at = ended x c.loop-number.search first c.loop-number.invariant.0 c.requires.rows place c.in_ok-number.field-0 c.in-Some.number c.in-Some.is c.in_ok-number.ensures.found in
    let low = place_low c.carried_exactly.ensures c.places_are_below.ensures x c.graph-graph.ensures.graph first.start place c.in-Some.number c.requires.start at in
    let few = c.graph-graph.ensures.graph.few in
    omega (arith, low, few)

pub loop-number-smaller : goal.loop-number-smaller
loop-number-smaller c =
    let x = c.args.subject.now in
    let first = c.args.search.now in
    let place = c.loop-number.place in
    let at = ended x c.loop-number.search first c.loop-number.invariant.0 c.requires.rows place c.in_ok-number.field-0 c.in-Some.number c.in-Some.is c.in_ok-number.ensures.found in
    let low = place_low c.carried_exactly.ensures c.places_are_below.ensures x c.graph-graph.ensures.graph first.start place c.in-Some.number c.requires.start at in
    omega (arith, low)

pub loop-number-preserved : goal.loop-number-preserved
loop-number-preserved c =
    let x = c.args.subject.now in
    let first = c.args.search.now in
    let place = c.loop-number.place in
    let at = ended x c.loop-number.search first c.loop-number.invariant.0 c.requires.rows place c.in_ok-number.field-0 c.in-Some.number c.in-Some.is c.in_ok-number.ensures.found in
    (c.in_ok-number.ensures.same ∙ c.loop-number.invariant.0, none_here c.one_way_at_a_place.ensures x c.args.file.now.file first.start place c.in-Some.number c.loop-number.invariant.1 at c.in_default-finish_at.ensures)

pub returns-clause-found : goal.returns-clause-found
returns-clause-found c =
    ran_out c.args.subject.now c.loop-number.search c.args.search.now c.loop-number.invariant.0 c.requires.rows c.loop-number.place c.in_ok-number.field-0 c.in_default.is c.in_ok-number.ensures.found
