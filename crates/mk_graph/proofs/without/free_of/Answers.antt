-- The nodes are met in the serial order, and each is kept where it is free.
use Rattle.std.proofs.Common.{◌≡◌, ℕ, ◌<◌, List, length, get_or, subst, sym, refl, arith}
use Rattle.std.proofs.lemmas.Bool.{false≢true}
use Rattle.mk_graph.specs.BitRows.{lists}
use Rattle.mk_graph.specs.Schedules.{HasAll}
use Rattle.mk_graph.specs.Graph.{node}
use Rattle.mk_graph.specs.Without.{joined}
use Rattle.mk_graph.proofs.Rounds.{at_place, free_joins, free_stays, all_free, groups_are}
use Rattle.mk_graph.proofs.without.free_of.Goals as goal
use Rattle.mk_graph.proofs.without.free_of.Goals.{then-has_groups, else-has_groups}

pub offset_bounds-nodes-n : goal.offset_bounds-nodes-n
offset_bounds-nodes-n c =
    let low = at_place c.args.graph.now c.nodes-nodes.ensures.graph c.order-n-items.result.now c.order-n-items.ensures.value c.loop-n.n-index c.loop-n-test.true in
    let few = c.nodes-nodes.ensures.graph.few in
    omega arith

pub bounds-nodes-n : goal.bounds-nodes-n
bounds-nodes-n c = rw c.nodes-nodes.ensures.value (at_place c.args.graph.now c.nodes-nodes.ensures.graph c.order-n-items.result.now c.order-n-items.ensures.value c.loop-n.n-index c.loop-n-test.true)

pub insert-requires : goal.insert-requires
insert-requires c =
    let low = at_place c.args.graph.now c.nodes-nodes.ensures.graph c.order-n-items.result.now c.order-n-items.ensures.value c.loop-n.n-index c.loop-n-test.true in
    let few = c.nodes-nodes.ensures.graph.few in
    omega arith

pub loop-n-preserved-then-n-o : goal.loop-n-preserved-then-n-o
loop-n-preserved-then-n-o c = free_stays c.args.graph.now c.nodes-nodes.ensures.graph c.order-n-items.result.now c.order-n-items.ensures.value c.args.o c.loop-n.n-index c.loop-n.free c.loop-n-test.true c.loop-n.invariant (λ h. h.0 c.if-n-o.true)

pub loop-n-preserved : goal.loop-n-preserved
loop-n-preserved c =
    let g = c.args.graph.now in
    let is = c.nodes-nodes.ensures.graph in
    let order = c.order-n-items.result.now in
    let low : get_or order c.loop-n.n-index 0 < length c.nodes-nodes.result.now = rw c.nodes-nodes.ensures.value (at_place g is order c.order-n-items.ensures.value c.loop-n.n-index c.loop-n-test.true) in
    let groups : lists c.as_slice.result.now ≡ (node g (get_or order c.loop-n.n-index 0)).groups = groups_are g c.nodes-nodes.result.now (get_or order c.loop-n.n-index 0) c.index-nodes-n.result (lists c.as_slice.result.now) c.nodes-nodes.ensures.value low c.as_slice.ensures in
    elim c.if-has_groups.branch [
      | then-has_groups w ↦ rw w.free-is
          (free_joins g is order c.order-n-items.ensures.value c.args.o c.loop-n.n-index c.loop-n.free
          w.insert.new.self c.loop-n-test.true c.loop-n.invariant c.if-n-o.false
          (subst (λ (l : List (List ℕ)). HasAll c.loop-n.free (joined l)) groups
          (w.if-has_groups.ensures.0 refl)) w.insert.ensures)
      | else-has_groups w ↦ rw w.free-is (free_stays g is order c.order-n-items.ensures.value c.args.o
          c.loop-n.n-index c.loop-n.free c.loop-n-test.true c.loop-n.invariant
          (λ h. false≢true (w.if-has_groups.ensures.1 (subst (λ (l : List (List ℕ)). HasAll c.loop-n.free
          (joined l)) (sym groups) h.1))))
    ]

pub returns : goal.returns
returns c = all_free c.args.graph.now c.nodes-nodes.ensures.graph c.order-n-items.result.now c.order-n-items.ensures.value c.args.o c.loop-n.n-index c.loop-n.free c.loop-n-test.false c.loop-n.invariant
