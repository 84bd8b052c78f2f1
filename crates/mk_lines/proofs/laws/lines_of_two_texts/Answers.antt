use Rattle.mk_lines.proofs.TwoTexts.{lines_of_two_texts}
use Rattle.mk_lines.proofs.laws.lines_of_two_texts.Goals as goal

pub returns : goal.returns
returns c = lines_of_two_texts
