-- Two first ways are one.
use Rattle.mk_graph_search.proofs.Firsts.{first_is_one}
use Rattle.mk_graph_search.proofs.laws.first_is_one.Goals as goal

pub returns : goal.returns
returns c = first_is_one
