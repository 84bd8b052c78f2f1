use Rattle.mk_graph.proofs.Steps.{IsUnderWay, work}
use Rattle.mk_graph.proofs.walk.walk_from.Given as goal

abbrev pub invariant-loop-frame : goal.invariant-loop-frame
invariant-loop-frame l = IsUnderWay l.rows l.fn.order.items l.goal l.marks l.frames.items l.order.items

abbrev pub decreases-loop-frame : goal.decreases-loop-frame
decreases-loop-frame l = work l.rows l.marks l.frames.items
