use Rattle.mk_infer_laws.proofs.Ending.{walk_goes_on}
use Rattle.mk_infer_laws.proofs.laws.walk_goes_on.Goals as goal

pub returns : goal.returns
returns c = walk_goes_on
