use Rattle.mk_core_laws.proofs.OneVerdict.{verdict_is_one}
use Rattle.mk_core_laws.proofs.answer_laws.verdict_is_one.Goals as goal

pub returns : goal.returns
returns c = verdict_is_one c.certificate_is_one.ensures c.findings_are_one.ensures c.selection_is_one.ensures c.serial_reaches_each_once.ensures
