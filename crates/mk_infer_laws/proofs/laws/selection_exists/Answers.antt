use Rattle.mk_infer_laws.proofs.Ending.{selection_exists}
use Rattle.mk_infer_laws.proofs.laws.selection_exists.Goals as goal

pub returns : goal.returns
returns c = selection_exists c.walk_has_an_end.ensures c.groups_keep_their_words.ensures
