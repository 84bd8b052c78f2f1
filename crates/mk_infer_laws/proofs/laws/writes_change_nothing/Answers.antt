use Rattle.mk_infer_laws.proofs.Writes.{writes_change_nothing}
use Rattle.mk_infer_laws.proofs.laws.writes_change_nothing.Goals as goal

pub returns : goal.returns
returns c = writes_change_nothing
