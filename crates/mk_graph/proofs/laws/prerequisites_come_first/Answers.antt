use Rattle.mk_graph.proofs.Orders.{prerequisites_come_first}
use Rattle.mk_graph.proofs.laws.prerequisites_come_first.Goals as goal

pub returns : goal.returns
returns c = prerequisites_come_first
