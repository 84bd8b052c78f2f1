use Rattle.std.proofs.Common.{refl, sym, ap, ◌∙◌, subst, inl, inr}
use Rattle.std.proofs.lemmas.Bool.{false≢true}
use Rattle.mk_build.specs.World.{Busy, Making}
use Rattle.mk_world.specs.State.{making_of, disk_of}
use Rattle.mk_world.specs.Fits.{Fits}
use Rattle.mk_world.proofs.Changes.{broken_leaves, broken_fits}
use Rattle.mk_world.proofs.breaking.break_off.Goals as goal

pub must_run-requires : goal.must_run-requires
must_run-requires c = rw c.graph-graph.ensures (c.requires.nodes c.args.number (c.if-not-is_running.ensures.0 refl))

pub returns-then-not-must_run-clause-judged : goal.returns-then-not-must_run-clause-judged
returns-then-not-must_run-clause-judged c =
    let must = rw c.graph-graph.ensures at c.if-not-must_run.ensures in
    inr (inr (c.if-not-is_running.ensures.0 refl, inl (λ h. false≢true (must.1 h), refl)))

pub break_off-requires : goal.break_off-requires
break_off-requires c = rw c.requires.many (c.requires.nodes c.args.number (c.if-not-is_running.ensures.0 refl))

pub returns-clause-fits : goal.returns-clause-fits
returns-clause-fits c = subst (Fits c.args.scene.now) (sym c.in_ok-break_off.ensures.ok) (broken_fits c.args.scene.now c.args.making.now c.args.number c.requires (c.if-not-is_running.ensures.0 refl))

pub returns-clause-judged : goal.returns-clause-judged
returns-clause-judged c =
    let runs = c.if-not-is_running.ensures.0 refl in
    let must = rw c.graph-graph.ensures at c.if-not-must_run.ensures in
    let leaves = ap (making_of c.args.scene.now) c.in_ok-break_off.ensures.ok ∙ broken_leaves c.args.scene.now c.args.making.now c.args.number (rw c.requires.many (c.requires.nodes c.args.number runs)) in
    record { allowed = (runs, must.0 refl); leaves = ap (λ (m : Making). Busy m (disk_of c.args.disk.now)) leaves }
