use Rattle.mk_world.proofs.Fronts.{legal_taken}
use Rattle.mk_world.proofs.laws.legal_steps_are_taken.Goals as goal

pub returns : goal.returns
returns c = legal_taken
