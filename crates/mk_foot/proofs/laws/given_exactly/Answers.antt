use Rattle.mk_foot.proofs.GivenLaws.{given_exactly}
use Rattle.mk_foot.proofs.laws.given_exactly.Goals as goal

pub returns : goal.returns
returns c = given_exactly
