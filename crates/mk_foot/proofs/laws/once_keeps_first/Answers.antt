use Rattle.mk_foot.proofs.OnceLaws.{once_keeps_first}
use Rattle.mk_foot.proofs.laws.once_keeps_first.Goals as goal

pub returns : goal.returns
returns c = once_keeps_first
