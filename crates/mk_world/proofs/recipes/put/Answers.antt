use Rattle.std.proofs.Common.{◌≡◌, List, true, refl, sym, ap, ◌∙◌, subst, inl, inr}
use Rattle.std.proofs.lemmas.Bool.{false≢true, OnTrue_at}
use Rattle.mk_lines.proofs.NameTests.{Has-from_has_name, has_name-from_Has}
use Rattle.mk_lines.specs.Names.{has_name}
use Rattle.mk_build.specs.Setting.{FileName}
use Rattle.mk_build.specs.World.{Busy}
use Rattle.mk_world.specs.declared.footprints.Footprint.{Footprint}
use Rattle.mk_world.proofs.Changes.{put_leaves, put_fits}
use Rattle.mk_world.proofs.recipes.put.Goals as goal

pub returns-then-not-contains-clause-judged : goal.returns-then-not-contains-clause-judged
returns-then-not-contains-clause-judged c =
    let own = ap (λ (p : Footprint). p.writes) c.footprint-footprint.ensures.value in
    inr (inr (c.if-not-is_running.ensures.0 refl, inl (λ h. false≢true (c.if-not-contains.ensures ∙ has_name-from_Has _ c.args.written.now.file.now (rw own h)), refl)))

pub returns-then-not-has_stamp-clause-judged : goal.returns-then-not-has_stamp-clause-judged
returns-then-not-has_stamp-clause-judged c =
    let own = ap (λ (p : Footprint). p.writes) c.footprint-footprint.ensures.value in
    let has = subst (λ (l : List FileName). has_name l c.args.written.now.file.now ≡ true) own (sym c.if-not-contains.ensures) in
    inr (inr (c.if-not-is_running.ensures.0 refl, inr (Has-from_has_name _ c.args.written.now.file.now has, inl (λ h. false≢true (c.if-not-has_stamp.ensures.1 h), refl))))

pub write-requires-clause-name : goal.write-requires-clause-name
write-requires-clause-name c =
    let own = ap (λ (p : Footprint). p.writes) c.footprint-footprint.ensures.value in
    let has = subst (λ (l : List FileName). has_name l c.args.written.now.file.now ≡ true) own (sym c.if-not-contains.ensures) in
    c.requires.named c.args.written.now.file.now (Has-from_has_name _ c.args.written.now.file.now has)

pub returns-clause-fits : goal.returns-clause-fits
returns-clause-fits c =
    let there : c.put.result ≡ true = c.put.ensures.there ∙ sym c.if-not-contains.ensures in
    put_fits c.args.scene.now c.args.making.now c.put.new.self c.args.written.now.number _ c.args.written.now.file.now c.args.written.now.content c.requires.fits (c.if-not-is_running.ensures.0 refl) (OnTrue_at there c.put.ensures.looked)

pub returns-clause-judged : goal.returns-clause-judged
returns-clause-judged c =
    let own = ap (λ (p : Footprint). p.writes) c.footprint-footprint.ensures.value in
    let runs = c.if-not-is_running.ensures.0 refl in
    let low = c.requires.fits.nodes c.args.written.now.number runs in
    let has = subst (λ (l : List FileName). has_name l c.args.written.now.file.now ≡ true) own (sym c.if-not-contains.ensures) in
    let there : c.put.result ≡ true = c.put.ensures.there ∙ sym c.if-not-contains.ensures in
    let leaves = put_leaves c.args.scene.now c.args.making.now c.put.new.self c.args.written.now.number c.footprint-footprint.result.now.writes c.args.written.now.file.now c.args.written.now.content own (rw c.requires.fits.many low) (OnTrue_at there c.put.ensures.looked) in
    record { allowed = (runs, Has-from_has_name _ c.args.written.now.file.now has, c.if-not-has_stamp.ensures.0 refl); leaves = λ i. Busy (leaves i) (c.write.ensures.disk i) }
