use Rattle.std.proofs.Common.{◌≡◌, map, take}
use Rattle.mk_graph.specs.declared.node.Node.{Node}
use Rattle.mk_world.specs.First.{reads_of, writes_of}
use Rattle.mk_world.proofs.footprints.footprints_of.Given as goal

-- the footprints so far
abbrev pub invariant-loop-node : goal.invariant-loop-node
invariant-loop-node l = l.all.items ≡ map (λ (n : Node). record { reads = reads_of l.setting n; writes = writes_of l.setting n }) (take l.node-index l.nodes)
