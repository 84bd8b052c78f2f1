use Rattle.mk_read_laws.proofs.OneLine.{one_line_has_the_commands}
use Rattle.mk_read_laws.proofs.rule_laws.one_line_has_the_commands.Goals as goal

pub returns : goal.returns
returns c = one_line_has_the_commands
