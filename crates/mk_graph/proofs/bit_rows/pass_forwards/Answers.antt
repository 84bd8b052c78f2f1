-- The nodes are met in the serial order, each after its prerequisites.
use Rattle.std.proofs.Common.{◌≡◌, ℕ, ◌<◌, ◌⊎◌, List, length, get_or, subst, arith}
use Rattle.std.specs.Prelude.{◌↔◌}
use Rattle.mk_graph.specs.Membership.{Has}
use Rattle.mk_graph.specs.Graph.{node}
use Rattle.mk_graph.specs.Without.{joined}
use Rattle.mk_graph.specs.BitRows.{RowLacks, lists}
use Rattle.mk_graph.proofs.Rounds.{at_place, groups_are}
use Rattle.mk_graph.proofs.Settling.{has_row, targets_more, all_targets}
use Rattle.mk_graph.proofs.bit_rows.pass_forwards.Goals as goal

pub offset_bounds-nodes-n : goal.offset_bounds-nodes-n
offset_bounds-nodes-n c =
    let g = c.args.graph.now in
    let is = c.nodes-nodes.ensures.graph in
    let order = c.order-n-items.result.now in
    let this = get_or order c.loop-n.n-index 0 in
    let inside : c.loop-n.n-index < length order = c.loop-n-test.true in
    let low : this < length g.nodes = at_place g is order c.order-n-items.ensures.value c.loop-n.n-index inside in
    let few = is.few in
    omega arith

pub bounds-nodes-n : goal.bounds-nodes-n
bounds-nodes-n c =
    let g = c.args.graph.now in
    let is = c.nodes-nodes.ensures.graph in
    let order = c.order-n-items.result.now in
    let this = get_or order c.loop-n.n-index 0 in
    let inside : c.loop-n.n-index < length order = c.loop-n-test.true in
    let low : this < length g.nodes = at_place g is order c.order-n-items.ensures.value c.loop-n.n-index inside in
    rw c.nodes-nodes.ensures.value low

pub pass_target-requires-clause-own : goal.pass_target-requires-clause-own
pass_target-requires-clause-own c =
    let g = c.args.graph.now in
    let is = c.nodes-nodes.ensures.graph in
    let order = c.order-n-items.result.now in
    let this = get_or order c.loop-n.n-index 0 in
    let inside : c.loop-n.n-index < length order = c.loop-n-test.true in
    let low : this < length g.nodes = at_place g is order c.order-n-items.ensures.value c.loop-n.n-index inside in
    has_row g c.args.stride c.args.first.now c.requires.first this low

pub pass_target-requires-clause-bit : goal.pass_target-requires-clause-bit
pass_target-requires-clause-bit c =
    let g = c.args.graph.now in
    let is = c.nodes-nodes.ensures.graph in
    let order = c.order-n-items.result.now in
    let this = get_or order c.loop-n.n-index 0 in
    let inside : c.loop-n.n-index < length order = c.loop-n-test.true in
    let low : this < length g.nodes = at_place g is order c.order-n-items.ensures.value c.loop-n.n-index inside in
    let wide = c.requires.first.wide in
    omega arith

pub pass_target-requires-clause-rows : goal.pass_target-requires-clause-rows
pass_target-requires-clause-rows c n h =
    let g = c.args.graph.now in
    let is = c.nodes-nodes.ensures.graph in
    let order = c.order-n-items.result.now in
    let this = get_or order c.loop-n.n-index 0 in
    let inside : c.loop-n.n-index < length order = c.loop-n-test.true in
    let low : this < length g.nodes = at_place g is order c.order-n-items.ensures.value c.loop-n.n-index inside in
    let groups : lists c.as_slice.result.now ≡ (node g this).groups = groups_are g c.nodes-nodes.result.now this c.index-nodes-n.result (lists c.as_slice.result.now) c.nodes-nodes.ensures.value (rw c.nodes-nodes.ensures.value low) c.as_slice.ensures in
    let room = has_row g c.args.stride c.args.done.now c.requires.done n (is.sound.edges this n (subst (λ (l : List (List ℕ)). Has (joined l) n) groups h)) in
    omega arith

pub loop-n-preserved : goal.loop-n-preserved
loop-n-preserved c =
    let g = c.args.graph.now in
    let is = c.nodes-nodes.ensures.graph in
    let order = c.order-n-items.result.now in
    let this = get_or order c.loop-n.n-index 0 in
    let inside : c.loop-n.n-index < length order = c.loop-n-test.true in
    let low : this < length g.nodes = at_place g is order c.order-n-items.ensures.value c.loop-n.n-index inside in
    let groups : lists c.as_slice.result.now ≡ (node g this).groups = groups_are g c.nodes-nodes.result.now this c.index-nodes-n.result (lists c.as_slice.result.now) c.nodes-nodes.ensures.value (rw c.nodes-nodes.ensures.value low) c.as_slice.ensures in
    let first = RowLacks c.args.stride c.args.first.now in
    let old = RowLacks c.args.stride c.args.done.now in
    let now = RowLacks c.args.stride c.loop-n.done in
    let new = RowLacks c.args.stride c.pass_target.new.done in
    targets_more g is order c.loop-n.n-index inside low first old now new c.loop-n.invariant (subst (λ (l : List (List ℕ)). (n o : ℕ) → new n o ↔ (now n o ⊎ ((n ≡ this) × (first this o × (¬ (o ≡ this)) × ((p : ℕ) → Has (joined l) p → now p o))))) groups c.pass_target.ensures)

pub returns-clause-targets : goal.returns-clause-targets
returns-clause-targets c = all_targets c.args.graph.now c.nodes-nodes.ensures.graph c.order-n-items.result.now
    c.order-n-items.ensures.value (RowLacks c.args.stride c.args.first.now)
    (RowLacks c.args.stride c.args.done.now) (RowLacks c.args.stride c.loop-n.done) c.loop-n.n-index
    c.loop-n-test.false c.loop-n.invariant
