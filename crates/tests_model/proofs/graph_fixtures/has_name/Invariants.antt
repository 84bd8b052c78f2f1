use Rattle.std.proofs.Common.{map, take}
use Rattle.mk_graph.specs.declared.node.Node.{Node}
use Rattle.mk_graph.specs.Membership.{Has}
use Rattle.tests_model.proofs.graph_fixtures.has_name.Given as goal

abbrev pub invariant-loop-node : goal.invariant-loop-node
invariant-loop-node l = ¬ (Has (map (λ (node : Node). node.name) (take l.node-index l.nodes)) l.name)
