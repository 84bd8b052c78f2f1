-- Graphs that have all that another one has, and more.
use Rattle.std.specs.Prelude.{◌≡◌, ℕ, ◌<◌, Bool, true, ◌||◌, List, [], ◌∷◌, ◌++◌, length, map}
use Rattle.std.specs.List.{range_with_len}
use Rattle.mk_graph.specs.declared.node.Node.{Node}
use Rattle.mk_graph.specs.Membership.{Has}
use Rattle.mk_graph.specs.Graph.{Graph, node, prerequisites}
use Rattle.mk_build.specs.Setting.{IsNumberOf, name}

-- The second graph has all nodes of the first, under their names and with all their prerequisites
-- and recipes, whatever else it has, whatever its goals are, and whatever is phony.
pub record Extends (g h : Graph) : Type 0 where
  -- The number in the second graph of each node of the first.
  pub place : ℕ → ℕ
  pub named : (n : ℕ) → n < length g.nodes → IsNumberOf h (name g n) (place n)
  pub recipe : (n : ℕ) → n < length g.nodes → (node g n).recipe ≡ true →
      (node h (place n)).recipe ≡ true
  pub edges : (n p : ℕ) → Has (prerequisites g n) p → Has (prerequisites h (place n)) (place p)

-- The graph with one more group of prerequisites at each node, with further recipes, with other
-- phony nodes, with further nodes, and with other goals.
abbrev pub amended : Graph → (more : ℕ → List ℕ) → (recipe phony : ℕ → Bool) → List Node →
    (goals : List ℕ) → Graph
amended g more recipe phony others goals =
    record {
      nodes = map (λ n. record (node g n) {
        groups = (node g n).groups ++ more n ∷ [];
        recipe = (node g n).recipe || recipe n;
        phony = phony n;
      }) (range_with_len 0 (length g.nodes)) ++ others;
      goals = goals;
    }
