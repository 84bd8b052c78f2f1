use Rattle.std.proofs.Common.{◌≡◌, map, take}
use Rattle.mk_graph_ready.specs.State.{fresh}
use Rattle.mk_graph_ready.proofs.state.lefts_of.Given as goal

abbrev pub invariant-loop-node : goal.invariant-loop-node
invariant-loop-node l = l.lefts.items ≡ map fresh (take l.node-index l.nodes)
