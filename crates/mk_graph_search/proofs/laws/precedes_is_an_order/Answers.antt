-- What precedes is in an order.
use Rattle.mk_graph_search.proofs.Order.{before_trans, before_none}
use Rattle.mk_graph_search.proofs.laws.precedes_is_an_order.Goals as goal

pub returns : goal.returns
returns c = λ succ t. (before_trans succ t, before_none succ t)
