use Rattle.std.proofs.Common.{◌≡◌, List, true, refl, sym, ap, ◌∙◌, subst, inl, inr}
use Rattle.std.proofs.lemmas.Bool.{false≢true}
use Rattle.mk_lines.proofs.NameTests.{Has-from_has_name, has_name-from_Has}
use Rattle.mk_lines.specs.Names.{has_name}
use Rattle.mk_build.specs.Setting.{FileName}
use Rattle.mk_build.specs.World.{Busy, Making}
use Rattle.mk_world.specs.State.{disk_of}
use Rattle.mk_world.specs.declared.footprints.Footprint.{Footprint}
use Rattle.mk_world.proofs.Changes.{looked_leaves}
use Rattle.mk_world.proofs.recipes.look.Goals as goal

pub returns-then-not-look-clause-judged : goal.returns-then-not-look-clause-judged
returns-then-not-look-clause-judged c =
    let own = ap (λ (p : Footprint). p.reads) c.footprint-footprint.ensures.value in
    inr (inr (c.if-not-is_running.ensures.0 refl, inl (λ h. false≢true (c.if-not-look.ensures.there ∙ has_name-from_Has _ c.args.file.now (rw own h)), refl)))

pub returns-clause-judged : goal.returns-clause-judged
returns-clause-judged c =
    let own = ap (λ (p : Footprint). p.reads) c.footprint-footprint.ensures.value in
    let runs = c.if-not-is_running.ensures.0 refl in
    let low = c.requires.nodes c.args.number runs in
    let has = subst (λ (l : List FileName). has_name l c.args.file.now ≡ true) own (sym c.if-not-look.ensures.there) in
    let leaves = looked_leaves c.args.scene.now c.args.making.now c.look.new.self c.args.number c.footprint-footprint.result.now.reads c.args.file.now c.content.result own (rw c.requires.many low) c.if-not-look.ensures.looked in
    record { allowed = (runs, Has-from_has_name _ c.args.file.now has); leaves = ap (λ (m : Making). Busy m (disk_of c.args.disk.now)) (rw c.content.ensures at leaves) }
