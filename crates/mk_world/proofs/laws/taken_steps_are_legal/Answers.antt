use Rattle.mk_world.proofs.Fronts.{taken_legal}
use Rattle.mk_world.proofs.laws.taken_steps_are_legal.Goals as goal

pub returns : goal.returns
returns c = taken_legal
