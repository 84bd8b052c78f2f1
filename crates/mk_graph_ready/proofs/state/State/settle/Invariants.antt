use Rattle.std.proofs.Common.{◌≡◌}
use Rattle.mk_graph_ready.specs.State.{Stands}
use Rattle.mk_graph_ready.specs.Stages.{work}
use Rattle.mk_graph_ready.proofs.state.State.settle.Given as goal

abbrev pub invariant-loop-number : goal.invariant-loop-number
invariant-loop-number l = record {
  stands : Stands l.layout l.self;
  goals : l.self.goals ≡ l.fn.self.goals;
  done : l.self.done ≡ l.fn.self.done;
}

abbrev pub decreases-loop-number : goal.decreases-loop-number
decreases-loop-number l = work l.self.stages
