use Rattle.mk_foot.proofs.GivenLaws.{editable_is_given}
use Rattle.mk_foot.proofs.laws.editable_is_given.Goals as goal

pub returns : goal.returns
returns c = editable_is_given
