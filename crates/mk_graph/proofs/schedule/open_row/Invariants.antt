use Rattle.std.proofs.Common.{◌≡◌, ◌++◌, drop}
use Rattle.mk_graph.specs.BitRows.{lists}
use Rattle.mk_graph.specs.Without.{opened}
use Rattle.mk_graph.proofs.schedule.open_row.Given as goal

abbrev pub invariant-loop-group : goal.invariant-loop-group
invariant-loop-group l = l.row.items ++ opened l.free (lists (drop l.group-index l.groups)) ≡ opened l.free (lists l.groups)
