-- The ends of ways at different places differ.
use Rattle.mk_graph_search.proofs.Few as few
use Rattle.mk_graph_search.proofs.laws.places_are_below.Goals as goal

pub returns : goal.returns
returns c = few.places_are_below
