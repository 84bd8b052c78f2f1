use Rattle.std.proofs.Common.{◌≡◌, map, slice_index_or, take}
use Rattle.mk_graph.specs.Graph.{no_node}
use Rattle.mk_graph.proofs.graph.names_along.Given as goal

abbrev pub invariant-loop-n : goal.invariant-loop-n
invariant-loop-n l = l.names.items ≡ map (λ n. (slice_index_or l.nodes n no_node).name) (take l.n-index l.path)
