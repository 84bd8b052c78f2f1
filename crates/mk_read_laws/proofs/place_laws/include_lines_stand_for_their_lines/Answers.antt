use Rattle.mk_read_laws.proofs.Nested.{include_lines_stand_for_their_lines}
use Rattle.mk_read_laws.proofs.place_laws.include_lines_stand_for_their_lines.Goals as goal

pub returns : goal.returns
returns c = include_lines_stand_for_their_lines
