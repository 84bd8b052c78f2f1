use Rattle.mk_infer_laws.proofs.Walks.{walk_is_one}
use Rattle.mk_infer_laws.proofs.laws.walk_is_one.Goals as goal

pub returns : goal.returns
returns c = walk_is_one
