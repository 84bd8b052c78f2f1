use Rattle.mk_read_laws.proofs.OneKind.{rule_lines}
use Rattle.mk_read_laws.proofs.laws.rule_lines_are_of_one_kind.Goals as goal

pub returns : goal.returns
returns c = rule_lines
