use Rattle.mk_world.proofs.OneFirst.{one_first}
use Rattle.mk_world.proofs.laws.first_world_is_one.Goals as goal

pub returns : goal.returns
returns c = one_first
