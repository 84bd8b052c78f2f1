-- Graphs whose prerequisites are what nodes need, and the first cycle in them.
use Rattle.std.specs.Prelude.{◌≡◌, ℕ, List, [], ◌∷◌, length, map, Option, None, Some}
use Rattle.std.specs.List.{range_with_len}
use Rattle.mk_graph.specs.Graph.{Graph, node}
use Rattle.mk_graph.specs.Walk.{Through, Closes}
use Rattle.mk_graph.specs.Build.{WalksAll}
use Rattle.mk_build.specs.Setting.{FileName, Setting, name}
use Rattle.mk_build_needs.specs.Needs.{needs}

-- The graph with the same nodes and goals, in which each node has these prerequisites, in one
-- group.
abbrev pub with_prerequisites : Graph → (ℕ → List ℕ) → Graph
with_prerequisites g given =
    record {
      nodes = map (λ n. record (node g n) { groups = given n ∷ [] })
          (range_with_len 0 (length g.nodes));
      goals = g.goals;
    }

-- The graph in which the prerequisites of each node are what it needs.
abbrev pub needs_graph : Graph → Setting → Graph
needs_graph g s = with_prerequisites g (needs g s)

-- The names along the first closed path that a depth-first, left-to-right walk from the goals
-- finds, with the first name repeated at the end; nothing if the walk completes.
abbrev pub IsFirstCycle : Graph → Option (List FileName) → Type 0
IsFirstCycle g None = (finished : List ℕ) × WalksAll g (Through finished)
IsFirstCycle g (Some names) =
    (path : List ℕ) × WalksAll g (Closes path) × (names ≡ map (name g) path)
