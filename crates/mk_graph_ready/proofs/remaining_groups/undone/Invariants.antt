use Rattle.std.proofs.Common.{take}
use Rattle.mk_graph.specs.Schedules.{HasAll}
use Rattle.mk_graph_ready.proofs.remaining_groups.undone.Given as goal

-- what was passed over is done
abbrev pub invariant-loop-past : goal.invariant-loop-past
invariant-loop-past l = HasAll l.done (take l.past l.group)
