use Rattle.mk_foot.proofs.GivenLaws.{editable_exactly}
use Rattle.mk_foot.proofs.laws.editable_exactly.Goals as goal

pub returns : goal.returns
returns c = editable_exactly
