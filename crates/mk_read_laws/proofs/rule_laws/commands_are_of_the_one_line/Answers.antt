use Rattle.mk_read_laws.proofs.OneLine.{commands_are_of_the_one_line}
use Rattle.mk_read_laws.proofs.rule_laws.commands_are_of_the_one_line.Goals as goal

pub returns : goal.returns
returns c = commands_are_of_the_one_line
