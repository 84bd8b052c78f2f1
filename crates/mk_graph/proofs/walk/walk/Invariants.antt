use Rattle.mk_graph.proofs.Goals.{HasWalked}
use Rattle.mk_graph.proofs.walk.walk.Given as goal

abbrev pub invariant-loop-goal : goal.invariant-loop-goal
invariant-loop-goal l = HasWalked l.rows l.goals l.goal-index l.marks.items l.order.items
