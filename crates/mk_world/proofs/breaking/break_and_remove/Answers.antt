use Rattle.std.proofs.Common.{◌≡◌, List, true, refl, sym, ap, ◌∙◌, subst, inl, inr, arith}
use Rattle.std.proofs.lemmas.Bool.{false≢true}
use Rattle.mk_lines.proofs.NameTests.{Has-from_has_name, has_name-from_Has}
use Rattle.mk_lines.specs.Names.{has_name}
use Rattle.mk_graph.specs.declared.node.Node.{Node}
use Rattle.mk_graph.specs.Membership.{Has}
use Rattle.mk_build.specs.Setting.{FileName, name, writes}
use Rattle.mk_build.specs.World.{Busy, without}
use Rattle.mk_world.specs.State.{making_of, disk_of, setting}
use Rattle.mk_world.specs.Fits.{Fits}
use Rattle.mk_world.specs.declared.footprints.Footprint.{Footprint}
use Rattle.mk_world.proofs.Judged.{node_is}
use Rattle.mk_world.proofs.Changes.{broken_leaves, broken_fits}
use Rattle.mk_world.proofs.breaking.break_and_remove.Goals as goal

pub offset_bounds-nodes-number : goal.offset_bounds-nodes-number
offset_bounds-nodes-number c =
    let is = rw c.graph-graph.ensures at c.nodes-nodes.ensures.graph in
    let low = c.requires.fits.nodes c.args.number (c.if-not-is_running.ensures.0 refl) in
    let few = is.few in
    omega arith

pub bounds-nodes-number : goal.bounds-nodes-number
bounds-nodes-number c = rw (c.nodes-nodes.ensures.value, c.graph-graph.ensures) (c.requires.fits.nodes c.args.number (c.if-not-is_running.ensures.0 refl))

pub returns-then-not-contains-clause-judged : goal.returns-then-not-contains-clause-judged
returns-then-not-contains-clause-judged c =
    let g = c.args.scene.now.graph in
    let runs = c.if-not-is_running.ensures.0 refl in
    let low = c.requires.fits.nodes c.args.number runs in
    let this = node_is g c.nodes-nodes.result.now c.args.number c.index-nodes-number.result (rw c.graph-graph.ensures at c.nodes-nodes.ensures.value) (rw (c.nodes-nodes.ensures.value, c.graph-graph.ensures) low) c.index-nodes-number.is in
    let same : c.as_str-target.result.now ≡ name g c.args.number = c.as_str-target.ensures ∙ ap (λ (v : Node). v.name) this in
    let own = ap (λ (p : Footprint). p.writes) c.footprint-footprint.ensures.value in
    inr (inr (runs, inl (λ h. false≢true (c.if-not-contains.ensures ∙ has_name-from_Has _ c.as_str-target.result.now (rw own (subst (λ (f : FileName). Has (writes g (setting c.args.scene.now) c.args.number) f) (sym same) h))), refl)))

pub remove-requires : goal.remove-requires
remove-requires c =
    let own = ap (λ (p : Footprint). p.writes) c.footprint-footprint.ensures.value in
    let has = subst (λ (l : List FileName). has_name l c.as_str-target.result.now ≡ true) own (sym c.if-not-contains.ensures) in
    c.requires.named c.as_str-target.result.now (Has-from_has_name _ c.as_str-target.result.now has)

pub returns-clause-fits : goal.returns-clause-fits
returns-clause-fits c = subst (Fits c.args.scene.now) (sym c.in_ok-break_off.ensures.ok) (broken_fits c.args.scene.now c.args.making.now c.args.number c.requires.fits (c.if-not-is_running.ensures.0 refl))

pub returns-clause-judged : goal.returns-clause-judged
returns-clause-judged c =
    let g = c.args.scene.now.graph in
    let runs = c.if-not-is_running.ensures.0 refl in
    let low = c.requires.fits.nodes c.args.number runs in
    let this = node_is g c.nodes-nodes.result.now c.args.number c.index-nodes-number.result (rw c.graph-graph.ensures at c.nodes-nodes.ensures.value) (rw (c.nodes-nodes.ensures.value, c.graph-graph.ensures) low) c.index-nodes-number.is in
    let same : c.as_str-target.result.now ≡ name g c.args.number = c.as_str-target.ensures ∙ ap (λ (v : Node). v.name) this in
    let own = ap (λ (p : Footprint). p.writes) c.footprint-footprint.ensures.value in
    let has = subst (λ (l : List FileName). has_name l c.as_str-target.result.now ≡ true) own (sym c.if-not-contains.ensures) in
    let wrote = subst (λ (f : FileName). Has (writes g (setting c.args.scene.now) c.args.number) f) same (Has-from_has_name _ c.as_str-target.result.now has) in
    let makes = ap (making_of c.args.scene.now) c.in_ok-break_off.ensures.ok ∙ broken_leaves c.args.scene.now c.args.making.now c.args.number (rw c.requires.fits.many low) in
    let disks = c.remove.ensures.disk ∙ ap (λ (f : FileName). without (disk_of c.args.disk.now) f) same in
    record { allowed = (runs, wrote); leaves = λ i. Busy (makes i) (disks i) }
