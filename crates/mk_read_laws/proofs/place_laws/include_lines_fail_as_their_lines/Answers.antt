use Rattle.mk_read_laws.proofs.InPlace.{include_lines_fail_as_their_lines}
use Rattle.mk_read_laws.proofs.place_laws.include_lines_fail_as_their_lines.Goals as goal

pub returns : goal.returns
returns c = include_lines_fail_as_their_lines
