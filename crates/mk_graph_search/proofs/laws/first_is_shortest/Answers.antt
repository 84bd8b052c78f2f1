-- What comes later isn't shorter.
use Rattle.mk_graph_search.proofs.Firsts.{first_is_shortest}
use Rattle.mk_graph_search.proofs.laws.first_is_shortest.Goals as goal

pub returns : goal.returns
returns c = first_is_shortest
