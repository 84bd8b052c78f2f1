use Rattle.std.proofs.Common.{◌≡◌, length, true, refl, sym, ap, ◌∙◌, subst, arith, inl, inr}
use Rattle.std.proofs.lemmas.Bool.{false≢true}
use Rattle.mk_graph.specs.declared.node.Node.{Node}
use Rattle.mk_graph.specs.Graph.{node}
use Rattle.mk_build.specs.World.{Busy, Making}
use Rattle.mk_world.specs.State.{making_of, disk_of}
use Rattle.mk_world.specs.Fits.{Fits}
use Rattle.mk_world.specs.declared.footprints.Footprint.{Footprint}
use Rattle.mk_world.proofs.Judged.{node_is}
use Rattle.mk_world.proofs.Changes.{wanted_low, begun_leaves, begun_fits, as_many}
use Rattle.mk_world.proofs.recipes.begin.Goals as goal

pub offset_bounds-nodes-number : goal.offset_bounds-nodes-number
offset_bounds-nodes-number c =
    let is = rw c.graph-graph.ensures at c.nodes-nodes.ensures.graph in
    let ready = c.if-not-is_ready.ensures c.args.scene.now c.requires.kept in
    let low = wanted_low c.args.scene.now.graph c.args.making.now.goals c.args.making.now.done is c.requires.fits.goals c.args.number (ready.0 refl).0.wanted in
    let few = is.few in
    omega arith

pub bounds-nodes-number : goal.bounds-nodes-number
bounds-nodes-number c =
    let is = rw c.graph-graph.ensures at c.nodes-nodes.ensures.graph in
    let ready = c.if-not-is_ready.ensures c.args.scene.now c.requires.kept in
    rw (c.nodes-nodes.ensures.value, c.graph-graph.ensures) (wanted_low c.args.scene.now.graph c.args.making.now.goals c.args.making.now.done is c.requires.fits.goals c.args.number (ready.0 refl).0.wanted)

pub returns-then-not-has_job-clause-judged : goal.returns-then-not-has_job-clause-judged
returns-then-not-has_job-clause-judged c = λ d.
    let is = rw c.graph-graph.ensures at c.nodes-nodes.ensures.graph in
    let ready = c.if-not-is_ready.ensures c.args.scene.now c.requires.kept in
    let low = wanted_low c.args.scene.now.graph c.args.making.now.goals c.args.making.now.done is c.requires.fits.goals c.args.number (ready.0 refl).0.wanted in
    let this = node_is c.args.scene.now.graph c.nodes-nodes.result.now c.args.number c.index-nodes-number.result (rw c.graph-graph.ensures at c.nodes-nodes.ensures.value) (rw (c.nodes-nodes.ensures.value, c.graph-graph.ensures) low) c.index-nodes-number.is in
    let recipe : (node c.args.scene.now.graph c.args.number).recipe ≡ true = sym (ap (λ (v : Node). v.recipe) this) ∙ c.if-not-node.false in
    inr (inr ((ready.0 refl, recipe), inl (λ h. false≢true (c.if-not-has_job.ensures.1 h), refl)))

pub footprint-footprint-requires : goal.footprint-footprint-requires
footprint-footprint-requires c =
    let is = rw c.graph-graph.ensures at c.nodes-nodes.ensures.graph in
    let ready = c.if-not-is_ready.ensures c.args.scene.now c.requires.kept in
    wanted_low c.args.scene.now.graph c.args.making.now.goals c.args.making.now.done is c.requires.fits.goals c.args.number (ready.0 refl).0.wanted

pub begin-requires : goal.begin-requires
begin-requires c =
    let is = rw c.graph-graph.ensures at c.nodes-nodes.ensures.graph in
    let ready = c.if-not-is_ready.ensures c.args.scene.now c.requires.kept in
    let low = wanted_low c.args.scene.now.graph c.args.making.now.goals c.args.making.now.done is c.requires.fits.goals c.args.number (ready.0 refl).0.wanted in
    rw c.requires.fits.many low

pub returns-clause-fits : goal.returns-clause-fits
returns-clause-fits c =
    let is = rw c.graph-graph.ensures at c.nodes-nodes.ensures.graph in
    let ready = c.if-not-is_ready.ensures c.args.scene.now c.requires.kept in
    let low = wanted_low c.args.scene.now.graph c.args.making.now.goals c.args.making.now.done is c.requires.fits.goals c.args.number (ready.0 refl).0.wanted in
    let own = c.footprint-footprint.ensures.value in
    subst (Fits c.args.scene.now) (sym c.in_ok-begin.ensures.ok) (begun_fits c.args.scene.now c.args.making.now c.args.number c.in_ok-run.run' (length c.as_slice.result.now) (length c.as_slice-2.result.now) c.requires.fits low c.in_ok-run.ensures
    (as_many c.as_slice.result.now _ _ c.as_slice.ensures (ap (λ (p : Footprint). p.reads) own)) (as_many c.as_slice-2.result.now _ _ c.as_slice-2.ensures (ap (λ (p : Footprint). p.writes) own)))

pub returns-clause-judged : goal.returns-clause-judged
returns-clause-judged c = λ d.
    let is = rw c.graph-graph.ensures at c.nodes-nodes.ensures.graph in
    let ready = c.if-not-is_ready.ensures c.args.scene.now c.requires.kept in
    let low = wanted_low c.args.scene.now.graph c.args.making.now.goals c.args.making.now.done is c.requires.fits.goals c.args.number (ready.0 refl).0.wanted in
    let this = node_is c.args.scene.now.graph c.nodes-nodes.result.now c.args.number c.index-nodes-number.result (rw c.graph-graph.ensures at c.nodes-nodes.ensures.value) (rw (c.nodes-nodes.ensures.value, c.graph-graph.ensures) low) c.index-nodes-number.is in
    let recipe : (node c.args.scene.now.graph c.args.number).recipe ≡ true = sym (ap (λ (v : Node). v.recipe) this) ∙ c.if-not-node.false in
    let leaves = ap (making_of c.args.scene.now) c.in_ok-begin.ensures.ok ∙ begun_leaves c.args.scene.now c.args.making.now c.args.number c.in_ok-run.run' (length c.as_slice.result.now) (length c.as_slice-2.result.now) (rw c.requires.fits.many low) c.in_ok-run.ensures in
    record { allowed = (ready.0 refl, recipe, c.if-not-has_job.ensures.0 refl); leaves = ap (λ (m : Making). Busy m (disk_of d)) leaves }
