use Rattle.std.proofs.Common.{drop}
use Rattle.std.specs.Prelude.{◌↔◌}
use Rattle.mk_graph.specs.Schedules.{HasAll}
use Rattle.mk_graph.proofs.node_set.NodeSet.has_all.Given as goal

abbrev pub invariant-loop-number : goal.invariant-loop-number
invariant-loop-number l = HasAll l.self l.numbers ↔ HasAll l.self (drop l.number-index l.numbers)
