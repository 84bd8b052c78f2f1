use Rattle.mk_read_laws.proofs.SilentLines.{silent_lines_say_nothing}
use Rattle.mk_read_laws.proofs.text_laws.silent_lines_say_nothing.Goals as goal

pub returns : goal.returns
returns c = silent_lines_say_nothing c.lines_of_two_texts.ensures
