use Rattle.std.proofs.Common.{◌≡◌, true, false, refl, sym, ap, ◌∙◌, subst, arith, inl, inr, ◌⊎◌}
use Rattle.std.proofs.lemmas.Bool.{false≢true}
use Rattle.mk_graph.specs.declared.node.Node.{Node}
use Rattle.mk_graph.specs.Graph.{Graph, node}
use Rattle.mk_build.specs.World.{Busy, Making}
use Rattle.mk_build.specs.Steps.{MustRun}
use Rattle.mk_world.specs.State.{making_of, disk_of}
use Rattle.mk_world.specs.Fits.{Fits}
use Rattle.mk_world.proofs.Judged.{node_is}
use Rattle.mk_world.proofs.Changes.{wanted_low, finished_leaves, finished_fits}
use Rattle.mk_world.proofs.recipes.pass.Goals as goal
use Rattle.mk_world.proofs.recipes.pass.Goals.{else-node-via-then-node+else-must_run, else-node-via-else-node}

pub offset_bounds-nodes-number : goal.offset_bounds-nodes-number
offset_bounds-nodes-number c =
    let is = rw c.graph-graph.ensures at c.nodes-nodes.ensures.graph in
    let ready = c.if-not-is_ready.ensures c.args.scene.now c.requires.kept in
    let low = wanted_low c.args.scene.now.graph c.args.making.now.goals c.args.making.now.done is c.requires.fits.goals c.args.number (ready.0 refl).0.wanted in
    let few = is.few in
    omega arith

pub bounds-nodes-number : goal.bounds-nodes-number
bounds-nodes-number c =
    let is = rw c.graph-graph.ensures at c.nodes-nodes.ensures.graph in
    let ready = c.if-not-is_ready.ensures c.args.scene.now c.requires.kept in
    rw (c.nodes-nodes.ensures.value, c.graph-graph.ensures) (wanted_low c.args.scene.now.graph c.args.making.now.goals c.args.making.now.done is c.requires.fits.goals c.args.number (ready.0 refl).0.wanted)

pub must_run-requires : goal.must_run-requires
must_run-requires c =
    let is = rw c.graph-graph.ensures at c.nodes-nodes.ensures.graph in
    let ready = c.if-not-is_ready.ensures c.args.scene.now c.requires.kept in
    rw c.graph-graph.ensures (wanted_low c.args.scene.now.graph c.args.making.now.goals c.args.making.now.done is c.requires.fits.goals c.args.number (ready.0 refl).0.wanted)

pub returns-then-must_run-clause-judged : goal.returns-then-must_run-clause-judged
returns-then-must_run-clause-judged c =
    let is = rw c.graph-graph.ensures at c.nodes-nodes.ensures.graph in
    let ready = c.if-not-is_ready.ensures c.args.scene.now c.requires.kept in
    let low = wanted_low c.args.scene.now.graph c.args.making.now.goals c.args.making.now.done is c.requires.fits.goals c.args.number (ready.0 refl).0.wanted in
    let this = node_is c.args.scene.now.graph c.nodes-nodes.result.now c.args.number c.index-nodes-number.result (rw c.graph-graph.ensures at c.nodes-nodes.ensures.value) (rw (c.nodes-nodes.ensures.value, c.graph-graph.ensures) low) c.index-nodes-number.is in
    let recipe : (node c.args.scene.now.graph c.args.number).recipe ≡ true = sym (ap (λ (v : Node). v.recipe) this) ∙ c.if-node.true in
    let must = rw c.graph-graph.ensures at c.if-must_run.ensures in
    inr (inr (ready.0 refl, inl (λ h. elim h [ inl none ↦ false≢true (sym none ∙ recipe) | inr not ↦ not (must.0 refl) ], refl)))

pub finish-requires-clause-node : goal.finish-requires-clause-node
finish-requires-clause-node c =
    let is = rw c.graph-graph.ensures at c.nodes-nodes.ensures.graph in
    let ready = c.if-not-is_ready.ensures c.args.scene.now c.requires.kept in
    rw c.requires.fits.many (wanted_low c.args.scene.now.graph c.args.making.now.goals c.args.making.now.done is c.requires.fits.goals c.args.number (ready.0 refl).0.wanted)

pub finish-requires-clause-small : goal.finish-requires-clause-small
finish-requires-clause-small c =
    let is = rw c.graph-graph.ensures at c.nodes-nodes.ensures.graph in
    let ready = c.if-not-is_ready.ensures c.args.scene.now c.requires.kept in
    let low = wanted_low c.args.scene.now.graph c.args.making.now.goals c.args.making.now.done is c.requires.fits.goals c.args.number (ready.0 refl).0.wanted in
    let few = is.few in
    omega arith

pub returns-clause-fits : goal.returns-clause-fits
returns-clause-fits c =
    let is = rw c.graph-graph.ensures at c.nodes-nodes.ensures.graph in
    let ready = c.if-not-is_ready.ensures c.args.scene.now c.requires.kept in
    let low = wanted_low c.args.scene.now.graph c.args.making.now.goals c.args.making.now.done is c.requires.fits.goals c.args.number (ready.0 refl).0.wanted in
    subst (Fits c.args.scene.now) (sym c.in_ok-finish.ensures.ok) (finished_fits c.args.scene.now c.args.making.now c.args.number c.requires.fits low)

pub returns-clause-judged : goal.returns-clause-judged
returns-clause-judged c =
    let g = c.args.scene.now.graph in
    let is = rw c.graph-graph.ensures at c.nodes-nodes.ensures.graph in
    let ready = c.if-not-is_ready.ensures c.args.scene.now c.requires.kept in
    let low = wanted_low g c.args.making.now.goals c.args.making.now.done is c.requires.fits.goals c.args.number (ready.0 refl).0.wanted in
    let this = node_is g c.nodes-nodes.result.now c.args.number c.index-nodes-number.result (rw c.graph-graph.ensures at c.nodes-nodes.ensures.value) (rw (c.nodes-nodes.ensures.value, c.graph-graph.ensures) low) c.index-nodes-number.is in
    let may : ((node g c.args.number).recipe ≡ false) ⊎ (¬ (MustRun g (disk_of c.args.disk.now) c.args.number)) = elim c.else-node.branch [
      | else-node-via-then-node+else-must_run w ↦ inr (λ h. false≢true (w.if-must_run.ensures.1 (subst (λ (k : Graph). MustRun k (disk_of c.args.disk.now) c.args.number) (sym c.graph-graph.ensures) h)))
      | else-node-via-else-node w ↦ inl (sym (ap (λ (v : Node). v.recipe) this) ∙ w.if-node.false)
    ] in
    let leaves = ap (making_of c.args.scene.now) c.in_ok-finish.ensures.ok ∙ finished_leaves c.args.scene.now c.args.making.now c.args.number (rw c.requires.fits.many low) in
    record { allowed = (ready.0 refl, may); leaves = ap (λ (m : Making). Busy m (disk_of c.args.disk.now)) leaves }

pub returns-clause-node : goal.returns-clause-node
returns-clause-node c =
    let is = rw c.graph-graph.ensures at c.nodes-nodes.ensures.graph in
    let ready = c.if-not-is_ready.ensures c.args.scene.now c.requires.kept in
    wanted_low c.args.scene.now.graph c.args.making.now.goals c.args.making.now.done is c.requires.fits.goals c.args.number (ready.0 refl).0.wanted
