use Rattle.std.proofs.Common.{refl}
use Rattle.mk_read_parse.proofs.kinds.assigned.Goals as goal

pub returns : goal.returns
returns c = rw (c.without_blanks.ensures, c.trimmed.ensures) refl
