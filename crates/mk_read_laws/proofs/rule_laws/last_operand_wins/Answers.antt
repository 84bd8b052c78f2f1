use Rattle.mk_read_laws.proofs.LastOperands.{last_operand_wins}
use Rattle.mk_read_laws.proofs.rule_laws.last_operand_wins.Goals as goal

pub returns : goal.returns
returns c = last_operand_wins c.operands_fix.ensures c.operands_win.ensures c.operands_leave_others.ensures
