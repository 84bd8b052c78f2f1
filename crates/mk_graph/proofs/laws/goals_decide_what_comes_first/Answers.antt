use Rattle.mk_graph.proofs.Orders.{goals_decide_what_comes_first}
use Rattle.mk_graph.proofs.laws.goals_decide_what_comes_first.Goals as goal

pub returns : goal.returns
returns c = goals_decide_what_comes_first
