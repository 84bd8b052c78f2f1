use Rattle.std.proofs.Common.{◌≡◌, map, take}
use Rattle.mk_graph.specs.declared.node.Node.{Node}
use Rattle.mk_claims.proofs.wider.node_names.Given as goal

-- the names so far
abbrev pub invariant-loop-node : goal.invariant-loop-node
invariant-loop-node l = l.names ≡ map (λ (n : Node). n.name) (take l.node-index l.nodes)
