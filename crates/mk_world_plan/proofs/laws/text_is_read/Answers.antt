-- Lines of words are read.
use Rattle.mk_world_plan.proofs.ReadBack.{text_read}
use Rattle.mk_world_plan.proofs.laws.text_is_read.Goals as goal

pub returns : goal.returns
returns c = text_read
