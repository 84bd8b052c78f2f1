use Rattle.mk_read_laws.proofs.FixedMacros.{operands_win_over_makefiles}
use Rattle.mk_read_laws.proofs.rule_laws.operands_win_over_makefiles.Goals as goal

pub returns : goal.returns
returns c = operands_win_over_makefiles c.operands_win.ensures
