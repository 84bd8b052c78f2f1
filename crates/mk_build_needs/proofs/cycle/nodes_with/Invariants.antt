-- The nodes up to this number.
use Rattle.std.proofs.Common.{◌≡◌, ◌++◌, map}
use Rattle.std.specs.List.{range_with_len}
use Rattle.mk_graph.specs.Graph.{prerequisites}
use Rattle.mk_graph.specs.Progress.{row}
use Rattle.mk_build_needs.proofs.Graphs.{changed}
use Rattle.mk_build_needs.proofs.cycle.nodes_with.Given as goal

abbrev pub invariant-loop-number : goal.invariant-loop-number
invariant-loop-number l = l.nodes.items ≡ map (changed l.graph (λ n. prerequisites l.graph n ++ row l.more n)) (range_with_len 0 l.number)
