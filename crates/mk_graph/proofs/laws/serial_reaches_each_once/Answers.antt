use Rattle.mk_graph.proofs.Orders.{serial_reaches_each_once}
use Rattle.mk_graph.proofs.laws.serial_reaches_each_once.Goals as goal

pub returns : goal.returns
returns c = serial_reaches_each_once
