-- The state of a make, and which of its nodes can be passed.
use Rattle.std.specs.Prelude.{◌≡◌, ℕ, List, [], ◌∷◌, false, ◌⊎◌, ◌↔◌}
use Rattle.mk_graph.specs.Membership.{Has}
use Rattle.mk_graph.specs.Graph.{Graph, node}
use Rattle.mk_graph.specs.Schedules.{CanStart}

-- The graph, the goals of the make, and the nodes that are done.
pub record Progress : Type 0 where
  pub graph : Graph
  pub goals : List ℕ
  pub done : List ℕ

-- The node is idle: it can start and has no recipe.
abbrev pub IsIdle : Progress → ℕ → Type 0
IsIdle p n = CanStart p.graph p.goals p.done n × ((node p.graph n).recipe ≡ false)

-- The node is the first idle one of these nodes.
abbrev pub IsFirstIdle : Progress → List ℕ → ℕ → Type 0
IsFirstIdle p [] n = ⊥
IsFirstIdle p (next ∷ ns) n =
    (IsIdle p next × (n ≡ next)) ⊎ ((¬ (IsIdle p next)) × IsFirstIdle p ns n)

-- None of these nodes is idle.
abbrev pub AreNotIdle : Progress → List ℕ → Type 0
AreNotIdle p ns = (n : ℕ) → Has ns n → ¬ (IsIdle p n)

-- No make of the graph has begun.
pub record IsBlank (g : Graph) (p : Progress) : Type 0 where
  pub graph : p.graph ≡ g
  pub goals : (n : ℕ) → ¬ (Has p.goals n)
  pub done : (n : ℕ) → ¬ (Has p.done n)

-- A make of these goals begins in the same graph.
pub record Starts (old new : Progress) (goals : List ℕ) : Type 0 where
  pub graph : new.graph ≡ old.graph
  pub names : (n : ℕ) → Has new.goals n ↔ Has goals n
  pub done : (n : ℕ) → ¬ (Has new.done n)

-- One more node is done.
pub record GoesOn (old new : Progress) (number : ℕ) : Type 0 where
  pub graph : new.graph ≡ old.graph
  pub goals : new.goals ≡ old.goals
  pub done : (n : ℕ) → Has new.done n ↔ ((n ≡ number) ⊎ Has old.done n)
