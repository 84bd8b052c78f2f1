use Rattle.mk_lines.proofs.LineNumbers.{first_lines_ascend}
use Rattle.mk_lines.proofs.laws.first_lines_ascend.Goals as goal

pub returns : goal.returns
returns c = first_lines_ascend
