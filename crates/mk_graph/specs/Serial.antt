-- The serial order: depth first, left to right, each node once and after its prerequisites (IEEE
-- Std 1003.1-2024, XCU make, "Target Rules").
use Rattle.std.specs.Prelude.{ℕ, zero, suc, List, [], ◌∷◌, length, fold, reverse, filter, if◌then◌else◌}
use Rattle.mk_graph.specs.Graph.{Graph, prerequisites}
use Rattle.mk_graph.specs.Membership.{has}

-- The visited nodes after a visit of n, the last one first: unchanged if n was visited before,
-- otherwise with what a visit of its prerequisites adds and then n. The depth limit is never
-- reached in a graph without cycles.
unfoldable pub visit : (ℕ → List ℕ) → ℕ → List ℕ → ℕ → List ℕ
visit needs zero visited n = visited
visit needs (suc deep) visited n =
    if has visited n then visited else n ∷ fold (visit needs deep) visited (needs n)

-- The visited nodes after these nodes are visited in order, the last one first.
unfoldable pub visits : Graph → List ℕ → List ℕ → List ℕ
visits g visited ns = fold (visit (prerequisites g) (suc (length g.nodes))) visited ns

-- The serial order of what these nodes reach.
unfoldable pub serial_from : Graph → List ℕ → List ℕ
serial_from g ns = reverse (visits g [] ns)

-- The serial order of the graph.
unfoldable pub serial_order : Graph → List ℕ
serial_order g = serial_from g g.goals

-- The serial order of what these goals reach, with the goals in the graph's order.
abbrev pub order_from : Graph → (goals : List ℕ) → List ℕ
order_from g goals = serial_from g (filter (has goals) g.goals)
