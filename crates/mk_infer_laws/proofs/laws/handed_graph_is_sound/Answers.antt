use Rattle.mk_infer_laws.proofs.Ending.{handed_graph_is_sound}
use Rattle.mk_infer_laws.proofs.laws.handed_graph_is_sound.Goals as goal

pub returns : goal.returns
returns c = handed_graph_is_sound c.groups_keep_their_words.ensures
