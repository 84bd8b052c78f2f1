use Rattle.std.proofs.Common.{ℕ, List, ◌<◌, length}
use Rattle.mk_graph.specs.Membership.{Has}
use Rattle.mk_graph.specs.Without.{joined}
use Rattle.mk_graph_ready.specs.RemainingGroups.{IsLeft}
use Rattle.mk_graph_ready.specs.Stages.{WantsOpened}
use Rattle.mk_graph_ready.proofs.state.advance.Given as goal

-- what was opened is wanted
abbrev pub invariant-loop-group : goal.invariant-loop-group
invariant-loop-group l = record {
  wants : WantsOpened l.fn.stages l.stages l.done l.fn.left;
  left : (groups : List (List ℕ)) → IsLeft l.fn.stages l.done groups l.fn.left → IsLeft l.stages l.done groups l.left;
  low : (n : ℕ) → Has (joined l.left.behind) n → n < length l.fn.stages;
}

abbrev pub decreases-loop-group : goal.decreases-loop-group
decreases-loop-group l = length l.left.behind
