use Rattle.std.proofs.Common.{◌≡◌, ◌++◌, filter, drop}
use Rattle.mk_graph.specs.Membership.{has}
use Rattle.mk_graph.specs.Without.{until}
use Rattle.mk_graph.proofs.schedule.free_until.Given as goal

abbrev pub invariant-loop-n : goal.invariant-loop-n
invariant-loop-n l = l.turns.items ++ until l.t (filter (has l.free) (drop l.n-index l.order)) ≡ until l.t (filter (has l.free) l.order)
