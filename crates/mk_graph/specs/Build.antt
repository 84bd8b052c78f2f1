-- The result of building a graph: the graph, or the first fault.
use Rattle.std.specs.Prelude.{◌≡◌, ℕ, ◌<◌, ◌≤◌, List, [], length, map, Result, Ok, Err}
use Rattle.mk_graph.specs.declared.fault.GraphFault.{GraphFault}
use Rattle.mk_graph.specs.declared.fault.GraphFault.TheVariants.{Cycle, TooManyNodes, Memory}
use Rattle.mk_graph.specs.Graph.{Graph, node, prerequisites, max_nodes}
use Rattle.mk_graph.specs.Walk.{WalkEnd, Through, Closes, Walks}

-- The walk of the whole graph from its goals has this end.
abbrev pub WalksAll : Graph → WalkEnd → Type 0
WalksAll g end = Walks (prerequisites g) [] [] g.goals end

-- More than 4,096 nodes give `TooManyNodes` (43); otherwise a walk that closes a path gives `Cycle`
-- (42) with the names along it; otherwise the result is the graph that was given. Nothing is
-- promised about out of memory.
abbrev pub Builds : Graph → Result Graph GraphFault → Type 0
Builds handed (Err TooManyNodes) = max_nodes < length handed.nodes
Builds handed (Err (Cycle names)) =
    (length handed.nodes ≤ max_nodes) × (path : List ℕ) × WalksAll handed (Closes path) ×
    (names ≡ map (λ n. (node handed n).name) path)
Builds handed (Ok g) =
    (length handed.nodes ≤ max_nodes) × (finished : List ℕ) × WalksAll handed (Through finished) ×
    (g ≡ handed)
Builds handed (Err Memory) = Unit {0}
