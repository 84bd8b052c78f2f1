use Rattle.std.proofs.Common.{ℕ, take}
use Rattle.mk_graph.specs.Membership.{Has}
use Rattle.mk_graph.specs.Graph.{node}
use Rattle.mk_world.specs.State.{disk_of}
use Rattle.mk_world.specs.Fits.{Forces}
use Rattle.mk_world.proofs.judging.must_run.Given as goal

-- none of those so far forces
abbrev pub invariant-loop-p : goal.invariant-loop-p
invariant-loop-p l = (p : ℕ) → Has (take l.p-index l.p-items) p → ¬ (Forces (node l.graph p) (disk_of l.disk) l.stamp)
