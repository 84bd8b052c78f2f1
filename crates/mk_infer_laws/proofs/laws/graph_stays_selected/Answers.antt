use Rattle.mk_infer_laws.proofs.Staying.{graph_stays_selected}
use Rattle.mk_infer_laws.proofs.laws.graph_stays_selected.Goals as goal

pub returns : goal.returns
returns c = graph_stays_selected c.groups_keep_their_words.ensures
