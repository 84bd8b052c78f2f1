use Rattle.std.proofs.Common.{ℕ, map, subst}
use Rattle.std.proofs.lemmas.Result.{err_from_is_err_and}
use Rattle.mk_build.specs.Steps.{Look, End}
use Rattle.mk_build.specs.SerialMake.{puts, rest_of_run}
use Rattle.mk_build.specs.Setting.{reads, writes}
use Rattle.mk_world.specs.State.{busy, setting}
use Rattle.mk_world.specs.Running.{TakesInTurn}
use Rattle.mk_world.proofs.InTurn.{finish_short}
use Rattle.mk_world.proofs.finishing.finish_with.Goals as goal

pub returns-in_err-sight-clause-takes : goal.returns-in_err-sight-clause-takes
returns-in_err-sight-clause-takes c =
    let scene = c.args.placed.now.scene.now in
    let n = c.args.number in
    let g = scene.graph in
    let s = setting scene in
    let p = err_from_is_err_and c.from_residual.result c.from_residual.ensures.1 in
    rw (p.1, p.2) (finish_short g s (busy scene c.args.making.now c.args.disk.now) (map (λ f. Look n f) (reads g s n)) (puts n (writes g s n) c.args.contents.now) (End n))

pub returns-clause-takes : goal.returns-clause-takes
returns-clause-takes c =
    let scene = c.args.placed.now.scene.now in
    let old = busy scene c.args.making.now c.args.disk.now in
    let new = busy scene c.finish_seeing.new.making c.finish_seeing.new.disk in
    subst (λ (t : ℕ). TakesInTurn scene.graph (setting scene) old new (rest_of_run scene.graph (setting scene) t c.args.contents.now) c.finish_seeing.result) c.in_ok-sight.ensures.recipe c.finish_seeing.ensures.takes
