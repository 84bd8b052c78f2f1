use Rattle.std.proofs.Common.{◌≡◌, ℕ, map, take, Vec}
use Rattle.std.specs.declared.alloc.Global.{Global}
use Rattle.mk_graph.specs.declared.node.Node.{Node}
use Rattle.mk_graph.specs.Without.{opened}
use Rattle.mk_graph.proofs.schedule.open_rows.Given as goal

abbrev pub invariant-loop-node : goal.invariant-loop-node
invariant-loop-node l = map (λ (row : Vec ℕ Global). row.items) l.rows.items ≡ map (λ (node : Node). opened l.free node.groups) (take l.node-index l.nodes)
