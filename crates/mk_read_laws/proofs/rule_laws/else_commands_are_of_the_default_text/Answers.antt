use Rattle.mk_read_laws.proofs.OneLine.{else_commands_are_of_the_default_text}
use Rattle.mk_read_laws.proofs.rule_laws.else_commands_are_of_the_default_text.Goals as goal

pub returns : goal.returns
returns c = else_commands_are_of_the_default_text
