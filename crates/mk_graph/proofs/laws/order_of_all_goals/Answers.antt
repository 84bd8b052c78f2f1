-- All goals are chosen.
use Rattle.mk_graph.proofs.OneNode.{order_of_all_goals}
use Rattle.mk_graph.proofs.laws.order_of_all_goals.Goals as goal

pub returns : goal.returns
returns c = λ g. order_of_all_goals g
