use Rattle.std.proofs.Common.{refl, sym, ap, ◌∙◌, subst, inl, inr}
use Rattle.std.proofs.lemmas.Bool.{false≢true}
use Rattle.mk_lemmas.proofs.Results.{MatchOption-at_some}
use Rattle.mk_build.specs.World.{Busy}
use Rattle.mk_world.specs.State.{making_of, disk_of}
use Rattle.mk_world.specs.Fits.{Fits}
use Rattle.mk_world.proofs.Changes.{finished_leaves, finished_fits, put_is, to_known, from_known}
use Rattle.mk_build.specs.Steps.{noted}
use Rattle.mk_world.proofs.ending.end_seeing.Goals as goal

pub returns-then-not-agrees-clause-judged : goal.returns-then-not-agrees-clause-judged
returns-then-not-agrees-clause-judged c =
    let scene = c.args.scene.now in
    let m = c.args.making.now in
    let t = c.args.sight.recipe in
    let seen = c.requires.seen in
    let put = put_is scene m t _ _ c.in-Some.written.items (ap (λ p. p.writes) c.footprint-footprint.ensures.value) (c.puts.ensures ∙ ap (λ r. r.puts) c.run-run.ensures) (MatchOption-at_some _ _ c.in-Some.is c.in_ok-written.ensures) in
    inr (inr (c.requires.runs, inr ((seen.all, put.0), inl (λ h. false≢true (c.if-not-agrees.ensures.1 (rw c.deref.ensures.value (to_known scene m (disk_of c.args.disk.now) t _ _ seen.is put.1 h))), refl))))

pub returns-clause-fits : goal.returns-clause-fits
returns-clause-fits c = subst (Fits c.args.scene.now) (sym c.in_ok-end.ensures.done) (finished_fits c.args.scene.now c.args.making.now c.args.sight.recipe c.requires.fits (c.requires.fits.nodes c.args.sight.recipe c.requires.runs))

pub returns-clause-judged : goal.returns-clause-judged
returns-clause-judged c =
    let scene = c.args.scene.now in
    let m = c.args.making.now in
    let t = c.args.sight.recipe in
    let seen = c.requires.seen in
    let put = put_is scene m t _ _ c.in-Some.written.items (ap (λ p. p.writes) c.footprint-footprint.ensures.value) (c.puts.ensures ∙ ap (λ r. r.puts) c.run-run.ensures) (MatchOption-at_some _ _ c.in-Some.is c.in_ok-written.ensures) in
    let agrees = from_known scene m (disk_of c.args.disk.now) t _ _ seen.is put.1 (rw (← c.deref.ensures.value) (c.if-not-agrees.ensures.0 refl)) in
    let makes = ap (making_of scene) c.in_ok-end.ensures.done ∙ finished_leaves scene m t (rw c.requires.fits.many (c.requires.fits.nodes t c.requires.runs)) in
    let disks = c.in_ok-end.ensures.noted ∙ (λ i. noted (disk_of c.args.disk.now) (record { recipe = t; seen = sym seen.is i; written = sym put.1 i })) in
    record { allowed = record { runs = c.requires.runs; seen = seen.all; put = put.0; agrees = agrees }; leaves = λ i. Busy (makes i) (disks i) }
