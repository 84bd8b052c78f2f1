use Rattle.mk_core_laws.proofs.OneAnswer.{answer_is_one}
use Rattle.mk_core_laws.proofs.answer_laws.answer_is_one.Goals as goal

pub returns : goal.returns
returns c = answer_is_one c.selection_is_one.ensures
