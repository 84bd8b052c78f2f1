use Rattle.std.proofs.Common.{◌≡◌, ℕ, ◌<◌, List, length, get_or, sym, ap, ◌∙◌, refl, subst, arith, false, inl, inr}
use Rattle.std.proofs.lemmas.Bool.{false≢true}
use Rattle.std.proofs.lemmas.List.{take_all}
use Rattle.mk_lemmas.proofs.Members.{Has-get_or}
use Rattle.mk_graph.specs.declared.node.Node.{Node}
use Rattle.mk_graph.specs.Membership.{Has}
use Rattle.mk_graph.specs.Graph.{node, prerequisites}
use Rattle.mk_build.specs.Setting.{name}
use Rattle.mk_build.specs.World.{HasStamp}
use Rattle.mk_world.specs.State.{disk_of}
use Rattle.mk_world.specs.Fits.{Forces}
use Rattle.mk_world.proofs.Makes.{one_more}
use Rattle.mk_world.proofs.Judged.{node_is, forced, not_forced, stamp_is}
use Rattle.mk_world.proofs.judging.must_run.Goals as goal

pub offset_bounds-nodes-p : goal.offset_bounds-nodes-p
offset_bounds-nodes-p c =
    let is = c.nodes-nodes.ensures.graph in
    let items = c.prerequisites-p-items.result.now in
    let p = get_or items c.loop-p.p-index 0 in
    let low : p < length c.args.graph.now.nodes = is.sound.edges c.args.number p (subst (λ (l : List ℕ). Has l p) c.prerequisites-p-items.ensures (Has-get_or items c.loop-p.p-index 0 c.loop-p-test.true)) in
    let few = is.few in
    omega arith

pub bounds-nodes-p : goal.bounds-nodes-p
bounds-nodes-p c =
    let items = c.prerequisites-p-items.result.now in
    let p = get_or items c.loop-p.p-index 0 in
    rw c.nodes-nodes.ensures.value (c.nodes-nodes.ensures.graph.sound.edges c.args.number p (subst (λ (l : List ℕ). Has l p) c.prerequisites-p-items.ensures (Has-get_or items c.loop-p.p-index 0 c.loop-p-test.true)))

pub returns-then-forces : goal.returns-then-forces
returns-then-forces c =
    let g = c.args.graph.now in
    let d = disk_of c.args.disk.now in
    let items = c.prerequisites-p-items.result.now in
    let p = get_or items c.loop-p.p-index 0 in
    let has : Has (prerequisites g c.args.number) p = subst (λ (l : List ℕ). Has l p) c.prerequisites-p-items.ensures (Has-get_or items c.loop-p.p-index 0 c.loop-p-test.true) in
    let this = node_is g c.nodes-nodes.result.now c.args.number c.index-nodes-number.result c.nodes-nodes.ensures.value (rw c.nodes-nodes.ensures.value c.requires) c.index-nodes-number.is in
    let other = node_is g c.nodes-nodes.result.now p c.index-nodes-p.result c.nodes-nodes.ensures.value (rw c.nodes-nodes.ensures.value (c.nodes-nodes.ensures.graph.sound.edges c.args.number p has)) c.index-nodes-p.is in
    let is : HasStamp d (name g c.args.number) c.in-Some.stamp = stamp_is d c.as_str.result.now _ c.in-Some.stamp c.stamp.result (c.as_str.ensures ∙ ap (λ (v : Node). v.name) this) c.stamp.ensures c.in-Some.is in
    (λ e. forced g d c.args.number p c.in-Some.stamp has is (subst (λ (v : Node). Forces v d c.in-Some.stamp) other (c.forces.ensures.0 c.if-forces.true)), λ h. refl)

pub loop-p-preserved : goal.loop-p-preserved
loop-p-preserved c = λ p h f.
    let g = c.args.graph.now in
    let d = disk_of c.args.disk.now in
    let items = c.prerequisites-p-items.result.now in
    let here = get_or items c.loop-p.p-index 0 in
    let has : Has (prerequisites g c.args.number) here = subst (λ (l : List ℕ). Has l here) c.prerequisites-p-items.ensures (Has-get_or items c.loop-p.p-index 0 c.loop-p-test.true) in
    let other = node_is g c.nodes-nodes.result.now here c.index-nodes-p.result c.nodes-nodes.ensures.value (rw c.nodes-nodes.ensures.value (c.nodes-nodes.ensures.graph.sound.edges c.args.number here has)) c.index-nodes-p.is in
    elim (one_more items c.loop-p.p-index p c.loop-p-test.true h) [
      | inl earlier ↦ c.loop-p.invariant p earlier f
      | inr e ↦ false≢true (sym c.if-forces.false ∙ c.forces.ensures.1 (subst (λ (v : Node). Forces v d c.in-Some.stamp) (sym other) (subst (λ k. Forces (node g k) d c.in-Some.stamp) (sym e) f)))
    ]

pub returns : goal.returns
returns c =
    let g = c.args.graph.now in
    let d = disk_of c.args.disk.now in
    let items = c.prerequisites-p-items.result.now in
    let this = node_is g c.nodes-nodes.result.now c.args.number c.index-nodes-number.result c.nodes-nodes.ensures.value (rw c.nodes-nodes.ensures.value c.requires) c.index-nodes-number.is in
    let is : HasStamp d (name g c.args.number) c.in-Some.stamp = stamp_is d c.as_str.result.now _ c.in-Some.stamp c.stamp.result (c.as_str.ensures ∙ ap (λ (v : Node). v.name) this) c.stamp.ensures c.in-Some.is in
    let plain : (node g c.args.number).phony ≡ false = ap (λ (v : Node). v.phony) (sym this) ∙ c.if-node.false in
    let all = take_all c.loop-p.p-index items c.loop-p-test.false ∙ c.prerequisites-p-items.ensures in
    (λ e. absurd (false≢true e), λ must. absurd (not_forced g d c.args.number c.in-Some.stamp plain is (λ p has. c.loop-p.invariant p (subst (λ (l : List ℕ). Has l p) (sym all) has)) must))
