use Rattle.std.proofs.Common.{◌≡◌, ◌∙◌, ℕ, List, map, subst, unwrap_or}
use Rattle.std.proofs.lemmas.Result.{err_from_is_err_and}
use Rattle.mk_build.specs.Steps.{Look, End}
use Rattle.mk_build.specs.SerialMake.{puts, rest_of_run}
use Rattle.mk_build.specs.Setting.{reads, writes}
use Rattle.mk_build.specs.World.{outcome}
use Rattle.mk_world.specs.State.{busy, setting, disk_of}
use Rattle.mk_world.specs.Running.{TakesInTurn, contents_of, new_stamps}
use Rattle.mk_world.proofs.InTurn.{finish_short}
use Rattle.mk_world.proofs.finishing.finish.Goals as goal

pub returns-in_err-sight-clause-takes : goal.returns-in_err-sight-clause-takes
returns-in_err-sight-clause-takes c =
    let scene = c.args.placed.now.scene.now in
    let n = c.args.number in
    let g = scene.graph in
    let s = setting scene in
    let p = err_from_is_err_and c.from_residual.result c.from_residual.ensures.1 in
    rw (p.1, p.2) (finish_short g s (busy scene c.args.making.now c.args.disk.now) (map (λ f. Look n f) (reads g s n)) (puts n (writes g s n) (contents_of g s (disk_of c.args.disk.now) n)) (End n))

pub returns-in_err-contents-clause-takes : goal.returns-in_err-contents-clause-takes
returns-in_err-contents-clause-takes c =
    let scene = c.args.placed.now.scene.now in
    let n = c.args.number in
    let g = scene.graph in
    let s = setting scene in
    let p = err_from_is_err_and c.from_residual-in_err-contents.result c.from_residual-in_err-contents.ensures.1 in
    rw (p.1, p.2) (finish_short g s (busy scene c.args.making.now c.args.disk.now) (map (λ f. Look n f) (reads g s n)) (puts n (writes g s n) (contents_of g s (disk_of c.args.disk.now) n)) (End n))

pub returns-clause-takes : goal.returns-clause-takes
returns-clause-takes c =
    let scene = c.args.placed.now.scene.now in
    let n = c.args.number in
    let d = c.args.disk.now in
    let g = scene.graph in
    let s = setting scene in
    let sight = c.in_ok-sight.sight in
    let same : sight.recipe ≡ n = c.in_ok-sight.ensures.recipe in
    let sees = c.in_ok-sight.ensures.sees scene c.requires.places in
    let are : c.deref.result.now ≡ contents_of g s (disk_of d) n = c.deref.ensures.value ∙ (c.in_ok-contents.ensures ∙ (λ i. unwrap_or (outcome d.known (same i) (sees i)) (new_stamps d.clock (writes g s (same i))))) in
    let old = busy scene c.args.making.now d in
    let new = busy scene c.finish_seeing.new.making c.finish_seeing.new.disk in
    subst (λ (cs : List ℕ). TakesInTurn g s old new (rest_of_run g s n cs) c.finish_seeing.result) are (subst (λ (t : ℕ). TakesInTurn g s old new (rest_of_run g s t c.deref.result.now) c.finish_seeing.result) same c.finish_seeing.ensures.takes)
