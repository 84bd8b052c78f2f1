use Rattle.mk_world.proofs.OneRun.{run_one}
use Rattle.mk_world.proofs.laws.run_is_one.Goals as goal

pub returns : goal.returns
returns c = run_one
