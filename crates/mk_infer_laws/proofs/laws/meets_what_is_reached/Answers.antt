use Rattle.mk_infer_laws.proofs.Walks.{meets_what_is_reached}
use Rattle.mk_infer_laws.proofs.laws.meets_what_is_reached.Goals as goal

pub returns : goal.returns
returns c = meets_what_is_reached
