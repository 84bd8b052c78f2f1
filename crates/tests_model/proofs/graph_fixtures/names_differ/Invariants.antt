use Rattle.std.proofs.Common.{◌≤◌, length, map, drop}
use Rattle.mk_graph.specs.declared.node.Node.{Node}
use Rattle.mk_graph.specs.Membership.{IsDistinct}
use Rattle.tests_model.proofs.graph_fixtures.names_differ.Given as goal

abbrev pub invariant-loop-place : goal.invariant-loop-place
invariant-loop-place l = (l.place ≤ length l.nodes) × IsDistinct (map (λ (node : Node). node.name) (drop l.place l.nodes))

abbrev pub decreases-loop-place : goal.decreases-loop-place
decreases-loop-place l = l.place
