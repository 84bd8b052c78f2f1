-- All that comes before was refused.
use Rattle.mk_graph_search.proofs.Firsts.{first_by_places}
use Rattle.mk_graph_search.proofs.laws.first_by_places.Goals as goal

pub returns : goal.returns
returns c = first_by_places
