use Rattle.std.proofs.Common.{◌≡◌, ◌-◌}
use Rattle.mk_graph_search.specs.Ways.{successors}
use Rattle.mk_graph_search.specs.Progress.{Stands}
use Rattle.mk_graph_search.proofs.Going.{room}
use Rattle.mk_graph_search.proofs.progress.Progress.go_on_until.Given as goal

abbrev pub invariant-loop-self : goal.invariant-loop-self
invariant-loop-self l =
    (l.self.start ≡ l.fn.self.start) × Stands (successors l.rows) l.fn.self.start l.self.visits l.self.at l.self.looked

abbrev pub decreases-loop-self : goal.decreases-loop-self
decreases-loop-self l = room l.rows l.fn.self.start - l.self.at
