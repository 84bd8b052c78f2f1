use Rattle.std.proofs.Common.{take}
use Rattle.mk_graph_ready.specs.Stages.{Wants}
use Rattle.mk_graph_ready.proofs.state.want_all.Given as goal

-- the members so far are wanted
abbrev pub invariant-loop-number : goal.invariant-loop-number
invariant-loop-number l = Wants l.fn.stages l.stages (take l.number-index l.group)
