use Rattle.mk_world.proofs.Fronts.{fronts_first}
use Rattle.mk_world.proofs.laws.fronts_run_first.Goals as goal

pub returns : goal.returns
returns c = fronts_first
