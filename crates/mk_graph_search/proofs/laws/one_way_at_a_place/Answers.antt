-- Two beginnings of one length are one.
use Rattle.mk_graph_search.proofs.Firsts.{one_at_a_place}
use Rattle.mk_graph_search.proofs.laws.one_way_at_a_place.Goals as goal

pub returns : goal.returns
returns c = one_at_a_place
