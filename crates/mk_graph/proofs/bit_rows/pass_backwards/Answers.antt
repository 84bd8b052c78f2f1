-- The nodes are met in the serial order backwards, each after those that list it.
use Rattle.std.proofs.Common.{◌≡◌, ℕ, ◌+◌, ◌-◌, ◌<◌, ◌⊎◌, List, length, get_or, subst, arith}
use Rattle.std.specs.Prelude.{◌↔◌}
use Rattle.mk_graph.specs.Membership.{Has}
use Rattle.mk_graph.specs.Graph.{node}
use Rattle.mk_graph.specs.Without.{joined}
use Rattle.mk_graph.specs.BitRows.{RowLacks, IsOpenTo, lists}
use Rattle.mk_graph.proofs.Rounds.{at_place, groups_are}
use Rattle.mk_graph.proofs.Settling.{IsPassedFrom, has_row, gates_more, all_gates}
use Rattle.mk_graph.proofs.bit_rows.pass_backwards.Goals as goal

pub offset_bounds-nodes-n : goal.offset_bounds-nodes-n
offset_bounds-nodes-n c =
    let g = c.args.graph.now in
    let is = c.nodes-nodes.ensures.graph in
    let order = c.order-order.result.now in
    let place = c.loop-place.place - 1 in
    let within = c.loop-place.invariant.0 in
    let some = c.loop-place-test.true in
    let this = get_or order place 0 in
    let inside : place < length order = omega arith in
    let low : this < length g.nodes = at_place g is order c.order-order.ensures.value place inside in
    let few = is.few in
    omega arith

pub bounds-nodes-n : goal.bounds-nodes-n
bounds-nodes-n c =
    let g = c.args.graph.now in
    let is = c.nodes-nodes.ensures.graph in
    let order = c.order-order.result.now in
    let place = c.loop-place.place - 1 in
    let within = c.loop-place.invariant.0 in
    let some = c.loop-place-test.true in
    let this = get_or order place 0 in
    let inside : place < length order = omega arith in
    let low : this < length g.nodes = at_place g is order c.order-order.ensures.value place inside in
    rw c.nodes-nodes.ensures.value low

pub pass_gates-requires-clause-own : goal.pass_gates-requires-clause-own
pass_gates-requires-clause-own c =
    let g = c.args.graph.now in
    let is = c.nodes-nodes.ensures.graph in
    let order = c.order-order.result.now in
    let place = c.loop-place.place - 1 in
    let within = c.loop-place.invariant.0 in
    let some = c.loop-place-test.true in
    let this = get_or order place 0 in
    let inside : place < length order = omega arith in
    let low : this < length g.nodes = at_place g is order c.order-order.ensures.value place inside in
    let room = has_row g c.args.stride c.args.first.now c.requires.first this low in
    omega arith

pub pass_gates-requires-clause-sizes : goal.pass_gates-requires-clause-sizes
pass_gates-requires-clause-sizes c =
    let first = c.requires.first.long in
    let done = c.requires.done.long in
    omega arith

pub pass_gates-requires-clause-rows : goal.pass_gates-requires-clause-rows
pass_gates-requires-clause-rows c n h =
    let g = c.args.graph.now in
    let is = c.nodes-nodes.ensures.graph in
    let order = c.order-order.result.now in
    let place = c.loop-place.place - 1 in
    let within = c.loop-place.invariant.0 in
    let some = c.loop-place-test.true in
    let this = get_or order place 0 in
    let inside : place < length order = omega arith in
    let low : this < length g.nodes = at_place g is order c.order-order.ensures.value place inside in
    let groups : lists c.as_slice.result.now ≡ (node g this).groups = groups_are g c.nodes-nodes.result.now this c.index-nodes-n.result (lists c.as_slice.result.now) c.nodes-nodes.ensures.value (rw c.nodes-nodes.ensures.value low) c.as_slice.ensures in
    has_row g c.args.stride c.args.done.now c.requires.done n (is.sound.edges this n (subst (λ (l : List (List ℕ)). Has (joined l) n) groups h))

pub loop-place-preserved : goal.loop-place-preserved
loop-place-preserved c =
    let g = c.args.graph.now in
    let is = c.nodes-nodes.ensures.graph in
    let order = c.order-order.result.now in
    let place = c.loop-place.place - 1 in
    let within = c.loop-place.invariant.0 in
    let some = c.loop-place-test.true in
    let this = get_or order place 0 in
    let inside : place < length order = omega arith in
    let low : this < length g.nodes = at_place g is order c.order-order.ensures.value place inside in
    let groups : lists c.as_slice.result.now ≡ (node g this).groups = groups_are g c.nodes-nodes.result.now this c.index-nodes-n.result (lists c.as_slice.result.now) c.nodes-nodes.ensures.value (rw c.nodes-nodes.ensures.value low) c.as_slice.ensures in
    let old = RowLacks c.args.stride c.args.first.now in
    let done = RowLacks c.args.stride c.args.done.now in
    let now = RowLacks c.args.stride c.loop-place.first in
    let new = RowLacks c.args.stride c.pass_gates.new.first in
    let before : IsPassedFrom g order old done (place + 1) now = subst (λ k. IsPassedFrom g order old done k now) (omega arith) c.loop-place.invariant.1 in
    (omega arith, gates_more g is order place inside low old done now new c.requires.free before (subst (λ (l : List (List ℕ)). (n o : ℕ) → new n o ↔ (now n o ⊎ (now this o × IsOpenTo (λ m. done m o) l n))) groups c.pass_gates.ensures))

pub returns-clause-gates : goal.returns-clause-gates
returns-clause-gates c =
    let at_start : c.loop-place.place ≡ 0 = omega (arith, c.loop-place-test.false) in
    all_gates c.args.graph.now c.nodes-nodes.ensures.graph c.order-order.result.now
    c.order-order.ensures.value (RowLacks c.args.stride c.args.first.now)
    (RowLacks c.args.stride c.args.done.now) (RowLacks c.args.stride c.loop-place.first)
    (subst (λ k. IsPassedFrom c.args.graph.now c.order-order.result.now
    (RowLacks c.args.stride c.args.first.now) (RowLacks c.args.stride c.args.done.now) k
    (RowLacks c.args.stride c.loop-place.first)) at_start c.loop-place.invariant.1)
