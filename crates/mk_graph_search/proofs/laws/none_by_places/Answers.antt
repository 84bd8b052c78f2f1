-- All that there is was refused.
use Rattle.mk_graph_search.proofs.Firsts.{none_by_places}
use Rattle.mk_graph_search.proofs.laws.none_by_places.Goals as goal

pub returns : goal.returns
returns c = none_by_places
