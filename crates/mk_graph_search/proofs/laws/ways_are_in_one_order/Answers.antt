-- Two ways are compared step by step.
use Rattle.mk_graph_search.proofs.Order.{in_one_order}
use Rattle.mk_graph_search.proofs.laws.ways_are_in_one_order.Goals as goal

pub returns : goal.returns
returns c = in_one_order
