use Rattle.mk_core_laws.proofs.OneVerdict.{verification_is_one}
use Rattle.mk_core_laws.proofs.answer_laws.verification_is_one.Goals as goal

pub returns : goal.returns
returns c = verification_is_one c.answer_is_one.ensures c.selection_is_one.ensures c.serial_reaches_each_once.ensures
