use Rattle.mk_macros.proofs.OtherMacros.{operands_leave_others}
use Rattle.mk_macros.proofs.definition_laws.operands_leave_others.Goals as goal

pub returns : goal.returns
returns c = operands_leave_others
