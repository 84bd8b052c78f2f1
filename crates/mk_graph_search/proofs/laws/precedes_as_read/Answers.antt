-- The order is read from the steps.
use Rattle.mk_graph_search.proofs.Reading.{as_read}
use Rattle.mk_graph_search.proofs.laws.precedes_as_read.Goals as goal

pub returns : goal.returns
returns c = as_read
