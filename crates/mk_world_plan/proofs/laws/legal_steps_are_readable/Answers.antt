-- Steps speak of names of the world alone.
use Rattle.mk_world_plan.proofs.Readable.{steps_readable}
use Rattle.mk_world_plan.proofs.laws.legal_steps_are_readable.Goals as goal

pub returns : goal.returns
returns c = steps_readable
