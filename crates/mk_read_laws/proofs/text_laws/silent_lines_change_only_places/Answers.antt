use Rattle.mk_read_laws.proofs.SilentLines.{silent_lines_change_only_places}
use Rattle.mk_read_laws.proofs.text_laws.silent_lines_change_only_places.Goals as goal

pub returns : goal.returns
returns c = silent_lines_change_only_places c.lines_of_two_texts.ensures
