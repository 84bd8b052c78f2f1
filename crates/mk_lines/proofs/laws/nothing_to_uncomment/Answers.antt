use Rattle.mk_lines.proofs.NoComment.{nothing_to_uncomment}
use Rattle.mk_lines.proofs.laws.nothing_to_uncomment.Goals as goal

pub returns : goal.returns
returns c = nothing_to_uncomment
