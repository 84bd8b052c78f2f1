use Rattle.mk_read_laws.proofs.OneKind.{include_lines}
use Rattle.mk_read_laws.proofs.laws.include_lines_are_of_one_kind.Goals as goal

pub returns : goal.returns
returns c = include_lines
