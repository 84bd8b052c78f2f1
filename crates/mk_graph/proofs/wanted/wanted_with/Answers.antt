-- The nodes are met in the serial order backwards, and each that is wanted wants what stands in its open groups.
use Rattle.std.proofs.Common.{◌≡◌, ℕ, ◌+◌, ◌-◌, ◌<◌, ◌⊎◌, List, length, get_or, inl, ⊎_elim, subst, refl, arith}
use Rattle.std.specs.Prelude.{◌↔◌}
use Rattle.std.proofs.lemmas.Bool.{false≢true}
use Rattle.mk_graph.specs.BitRows.{lists}
use Rattle.mk_graph.specs.Membership.{Has}
use Rattle.mk_graph.specs.Graph.{node}
use Rattle.mk_graph.specs.Schedules.{InOpenGroup}
use Rattle.mk_graph.specs.Without.{joined}
use Rattle.mk_graph.proofs.Rounds.{AreWantedFrom, at_place, goals_wanted, opens_this, passes_this, all_wanted, groups_are}
use Rattle.mk_graph.proofs.wanted.wanted_with.Goals as goal

pub loop-place-init : goal.loop-place-init
loop-place-init c =
    let added : (n : ℕ) → Has c.insert_all.new.self n ↔ (Has c.args.goals.now n ⊎ Has c.new-wanted.result n) = c.insert_all.ensures in
    let are : (n : ℕ) → Has c.insert_all.new.self n ↔ Has c.args.goals.now n = λ n. (λ h. ⊎_elim (λ there. there) (λ none. absurd (c.new-wanted.ensures n none)) ((added n).0 h), λ h. (added n).1 (inl h)) in
    (omega arith, goals_wanted c.args.graph.now c.nodes-nodes.ensures.graph c.order-order.result.now c.order-order.ensures.value c.args.goals.now c.args.done.now c.requires c.insert_all.new.self (length c.order-order.result.now) (omega arith) are)

pub offset_bounds-nodes-n : goal.offset_bounds-nodes-n
offset_bounds-nodes-n c =
    let within = c.loop-place.invariant.0 in
    let some = c.loop-place-test.true in
    let low = at_place c.args.graph.now c.nodes-nodes.ensures.graph c.order-order.result.now c.order-order.ensures.value (c.loop-place.place - 1) (omega arith) in
    let few = c.nodes-nodes.ensures.graph.few in
    omega arith

pub bounds-nodes-n : goal.bounds-nodes-n
bounds-nodes-n c =
    let within = c.loop-place.invariant.0 in
    let some = c.loop-place-test.true in
    rw c.nodes-nodes.ensures.value (at_place c.args.graph.now c.nodes-nodes.ensures.graph c.order-order.result.now c.order-order.ensures.value (c.loop-place.place - 1) (omega arith))

pub want_open-requires : goal.want_open-requires
want_open-requires c n h =
    let g = c.args.graph.now in
    let is = c.nodes-nodes.ensures.graph in
    let order = c.order-order.result.now in
    let place = c.loop-place.place - 1 in
    let within = c.loop-place.invariant.0 in
    let some = c.loop-place-test.true in
    let this = get_or order place 0 in
    let inside : place < length order = omega arith in
    let low : this < length c.nodes-nodes.result.now = rw c.nodes-nodes.ensures.value (at_place g is order c.order-order.ensures.value place inside) in
    let groups : lists c.as_slice.result.now ≡ (node g this).groups = groups_are g c.nodes-nodes.result.now this c.index-nodes-n.result (lists c.as_slice.result.now) c.nodes-nodes.ensures.value low c.as_slice.ensures in
    let edge = is.sound.edges this n (subst (λ (l : List (List ℕ)). Has (joined l) n) groups h) in
    let few = is.few in
    omega arith

pub loop-place-preserved-then-has : goal.loop-place-preserved-then-has
loop-place-preserved-then-has c =
    let g = c.args.graph.now in
    let is = c.nodes-nodes.ensures.graph in
    let order = c.order-order.result.now in
    let place = c.loop-place.place - 1 in
    let within = c.loop-place.invariant.0 in
    let some = c.loop-place-test.true in
    let this = get_or order place 0 in
    let inside : place < length order = omega arith in
    let low : this < length c.nodes-nodes.result.now = rw c.nodes-nodes.ensures.value (at_place g is order c.order-order.ensures.value place inside) in
    let groups : lists c.as_slice.result.now ≡ (node g this).groups = groups_are g c.nodes-nodes.result.now this c.index-nodes-n.result (lists c.as_slice.result.now) c.nodes-nodes.ensures.value low c.as_slice.ensures in
    let before : AreWantedFrom g c.args.goals.now order c.args.done.now (place + 1) c.loop-place.wanted = subst (λ k. AreWantedFrom g c.args.goals.now order c.args.done.now k c.loop-place.wanted) (omega arith) c.loop-place.invariant.1 in (
      omega arith,
      opens_this g is order c.order-order.ensures.value c.args.goals.now c.args.done.now place
          inside c.loop-place.wanted c.want_open.new.wanted before (c.if-has.ensures.0 refl)
          (subst (λ (l : List (List ℕ)). (n : ℕ) → Has c.want_open.new.wanted n
          ↔ (InOpenGroup c.args.done.now l n ⊎ Has c.loop-place.wanted n)) groups c.want_open.ensures),
    )

pub loop-place-preserved : goal.loop-place-preserved
loop-place-preserved c =
    let g = c.args.graph.now in
    let order = c.order-order.result.now in
    let place = c.loop-place.place - 1 in
    let within = c.loop-place.invariant.0 in
    let some = c.loop-place-test.true in
    let before : AreWantedFrom g c.args.goals.now order c.args.done.now (place + 1) c.loop-place.wanted = subst (λ k. AreWantedFrom g c.args.goals.now order c.args.done.now k c.loop-place.wanted) (omega arith) c.loop-place.invariant.1 in
    (omega arith, passes_this g c.nodes-nodes.ensures.graph order c.order-order.ensures.value c.args.goals.now c.args.done.now place (omega arith) c.loop-place.wanted before (λ h. false≢true (c.if-has.ensures.1 h)))

pub returns : goal.returns
returns c =
    let at_start : c.loop-place.place ≡ 0 = omega (arith, c.loop-place-test.false) in
    all_wanted c.args.graph.now c.nodes-nodes.ensures.graph c.order-order.result.now
    c.order-order.ensures.value c.args.goals.now c.args.done.now c.loop-place.wanted
    (subst (λ k. AreWantedFrom c.args.graph.now c.args.goals.now c.order-order.result.now c.args.done.now
    k c.loop-place.wanted) at_start c.loop-place.invariant.1)
