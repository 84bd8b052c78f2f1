use Rattle.std.proofs.Common.{take}
use Rattle.mk_graph_ready.specs.Stages.{Wakes}
use Rattle.mk_graph_ready.proofs.state.wake.Given as goal

-- the nodes so far are to be looked at
abbrev pub invariant-loop-number : goal.invariant-loop-number
invariant-loop-number l = Wakes l.fn.stages l.stages (take l.number-index l.numbers)
