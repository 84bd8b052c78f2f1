use Rattle.mk_core_since.proofs.Promised.{since_is_next}
use Rattle.mk_core_since.proofs.laws.since_is_next.Goals as goal

pub returns : goal.returns
returns c = since_is_next c.named_is_right.ensures c.named_is_right_without.ensures
