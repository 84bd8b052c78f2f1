use Rattle.std.proofs.Common.{drop}
use Rattle.std.specs.Prelude.{◌↔◌}
use Rattle.mk_graph.specs.BitRows.{lists}
use Rattle.mk_graph.specs.Schedules.{HasAll}
use Rattle.mk_graph.specs.Without.{joined}
use Rattle.mk_graph.proofs.node_set.NodeSet.has_groups.Given as goal

abbrev pub invariant-loop-group : goal.invariant-loop-group
invariant-loop-group l = HasAll l.self (joined (lists l.groups)) ↔ HasAll l.self (joined (lists (drop l.group-index l.groups)))
