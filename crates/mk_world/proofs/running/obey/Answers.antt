use Rattle.std.proofs.Common.{sym, subst}
use Rattle.mk_world.specs.Running.{AnswersInTurn, steps_of, run_steps}
use Rattle.mk_world.proofs.running.obey.Goals as goal

pub returns-in-Run : goal.returns-in-Run
returns-in-Run c =
    let said = subst (λ t. AnswersInTurn c.args.world.now c.run_whole.new.world (run_steps c.args.world.now t) c.run_whole.result) c.as_str-in-Run.ensures c.run_whole.ensures in
    subst (λ o. AnswersInTurn c.args.world.now c.run_whole.new.world (steps_of c.args.world.now o) c.run_whole.result) (sym c.in-Run.is) said
