use Rattle.std.proofs.Common.{◌≡◌, ℕ, map, take, Vec}
use Rattle.std.specs.declared.alloc.Global.{Global}
use Rattle.std.specs.List.{flat_map}
use Rattle.mk_graph.specs.declared.node.Node.{Node}
use Rattle.tests_model.proofs.graph_fixtures.rows_of.Given as goal

abbrev pub invariant-loop-node : goal.invariant-loop-node
invariant-loop-node l = map (λ (row : Vec ℕ Global). row.items) l.rows.items ≡ map (λ (node : Node). flat_map (λ group. group) node.groups) (take l.node-index l.nodes)
