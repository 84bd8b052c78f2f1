use Rattle.std.proofs.Common.{length, ◌-◌}
use Rattle.mk_graph_search.proofs.Going.{LooksOn}
use Rattle.mk_graph_search.proofs.progress.Progress.expand.Given as goal

abbrev pub invariant-loop-self : goal.invariant-loop-self
invariant-loop-self l = LooksOn l.rows l.row l.fn.self.start l.fn.self.at l.self.start l.self.visits l.self.at l.self.looked

abbrev pub decreases-loop-self : goal.decreases-loop-self
decreases-loop-self l = length l.row - l.self.looked
