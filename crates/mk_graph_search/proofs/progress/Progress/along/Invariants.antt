use Rattle.std.proofs.Common.{◌<◌, length}
use Rattle.mk_graph_search.proofs.Going.{LeadsBack}
use Rattle.mk_graph_search.proofs.progress.Progress.along.Given as goal

abbrev pub invariant-loop-at : goal.invariant-loop-at
invariant-loop-at l = (l.at < length l.self.visits) × LeadsBack l.self.start l.self.visits l.nodes.items l.at l.place

abbrev pub decreases-loop-at : goal.decreases-loop-at
decreases-loop-at l = l.at
