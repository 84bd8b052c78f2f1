use Rattle.mk_world.proofs.StepTests.{allowed_as}
use Rattle.mk_world.proofs.laws.allowed_where_all_holds.Goals as goal

pub returns : goal.returns
returns c = allowed_as
