-- A walk from one node has one end.
use Rattle.mk_graph.proofs.OneNode.{serial_order_of_one}
use Rattle.mk_graph.proofs.laws.serial_order_of_one.Goals as goal

pub returns : goal.returns
returns c = λ g is n. serial_order_of_one g is n
