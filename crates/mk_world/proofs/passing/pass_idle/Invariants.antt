use Rattle.std.proofs.Common.{ℕ, List, length}
use Rattle.mk_world.specs.Fits.{Fits}
use Rattle.mk_world.specs.Kept.{IsKept}
use Rattle.mk_world.specs.State.{making_of}
use Rattle.mk_world.specs.Running.{Passes}
use Rattle.mk_world.proofs.Idle.{missing}
use Rattle.mk_world.proofs.passing.pass_idle.Given as goal

-- nodes are passed one after another
abbrev pub invariant-loop-number : goal.invariant-loop-number
invariant-loop-number l = record {
  fits : Fits l.scene l.making;
  kept : IsKept l.scene l.making l.readiness;
  passes : (ns : List ℕ) × Passes l.scene.graph (making_of l.scene l.fn.making) ns (making_of l.scene l.making);
}

abbrev pub decreases-loop-number : goal.decreases-loop-number
decreases-loop-number l = missing (length l.scene.graph.nodes) l.making.done
