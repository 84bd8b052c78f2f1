use Rattle.mk_core_laws.proofs.RefusedAlike.{refused_alike}
use Rattle.mk_core_laws.proofs.answer_laws.evidence_refuses_as_check.Goals as goal

pub returns : goal.returns
returns c = refused_alike c.selection_is_one.ensures c.serial_reaches_each_once.ensures
