-- What is shown in a first world is shown.
use Rattle.std.proofs.lemmas.Result.{IfOk-weaker}
use Rattle.mk_core.specs.Simulation.{ShowsRun}
use Rattle.mk_core.proofs.simulation.shown.Goals as goal

pub returns : goal.returns
returns c =
    IfOk-weaker c.shown_in.result _ (λ shown. ShowsRun c.args.graph.now c.args.setting.now c.args.plan.now shown)
    (λ shown shows. shows c.args.graph.now c.args.setting.now c.in_ok-world.ensures) c.shown_in.ensures
