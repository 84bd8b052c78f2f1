use Rattle.std.proofs.Common.{◌≤◌, length}
use Rattle.mk_graph.proofs.Rounds.{AreWantedFrom}
use Rattle.mk_graph.proofs.wanted.wanted_with.Given as goal

abbrev pub invariant-loop-place : goal.invariant-loop-place
invariant-loop-place l = (l.place ≤ length l.order) × AreWantedFrom l.graph l.goals l.order l.done l.place l.wanted

abbrev pub decreases-loop-place : goal.decreases-loop-place
decreases-loop-place l = l.place
