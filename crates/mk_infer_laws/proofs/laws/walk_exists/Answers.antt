use Rattle.mk_infer_laws.proofs.Ending.{walk_exists}
use Rattle.mk_infer_laws.proofs.laws.walk_exists.Goals as goal

pub returns : goal.returns
returns c = walk_exists
