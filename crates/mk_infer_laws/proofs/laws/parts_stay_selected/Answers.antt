use Rattle.mk_infer_laws.proofs.Staying.{parts_stay_selected}
use Rattle.mk_infer_laws.proofs.laws.parts_stay_selected.Goals as goal

pub returns : goal.returns
returns c = parts_stay_selected c.walk_has_an_end.ensures c.closes_only_cycles.ensures c.comes_through_without_cycles.ensures c.groups_keep_their_words.ensures
