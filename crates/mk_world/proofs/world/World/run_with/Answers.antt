use Rattle.std.proofs.Common.{subst}
use Rattle.std.proofs.lemmas.Result.{err_from_is_err_and}
use Rattle.mk_build.specs.SerialMake.{rest_of_run}
use Rattle.mk_build.specs.Steps.{Begin}
use Rattle.mk_world.specs.State.{Scene, setting}
use Rattle.mk_world.specs.Running.{AnswersInTurn}
use Rattle.mk_world.proofs.InTurn.{answers_next, answers_refused}
use Rattle.mk_world.proofs.world.World.run_with.Goals as goal

pub returns-in_err-begin_number : goal.returns-in_err-begin_number
returns-in_err-begin_number c =
    let old = c.args.self.now in
    let p = err_from_is_err_and c.from_residual.result c.from_residual.ensures.1 in
    rw (p.1, p.2) (answers_refused old c.begin_number.new.self (Begin c.args.number) (rest_of_run old.scene.graph (setting old.scene) c.args.number c.args.contents.now) c.in_err-begin_number.field-0.0 c.in_err-begin_number.ensures)

pub returns : goal.returns
returns c =
    let old = c.args.self.now in
    let mid = c.begin_number.new.self in
    let new = c.finish_with.new.self in
    let n = c.args.number in
    let cs = c.args.contents.now in
    let r = c.finish_with.result in
    let rest = subst (λ (k : Scene). AnswersInTurn mid new (rest_of_run k.graph (setting k) n cs) r) c.in_ok-begin_number.ensures.scene c.finish_with.ensures in
    answers_next old mid new (Begin n) (rest_of_run old.scene.graph (setting old.scene) n cs) r c.in_ok-begin_number.ensures rest
