use Rattle.mk_infer_laws.proofs.OneSelection.{selection_is_one}
use Rattle.mk_infer_laws.proofs.laws.selection_is_one.Goals as goal

pub returns : goal.returns
returns c = selection_is_one c.walk_has_one_end.ensures
