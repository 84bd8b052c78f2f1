-- A table of the places of visited nodes.
use Rattle.std.specs.Prelude.{◌≡◌, ℕ, ◌<◌, ◌≤◌, List, length, Option, Some, true, slice_index_or}
use Rattle.std.specs.Option.{is_some}
use Rattle.mk_graph_search.specs.declared.visits.Visit.{Visit}

-- The node of the visit at a place.
abbrev pub node_at : List Visit → ℕ → ℕ
node_at visits k = (slice_index_or visits k (record { node = 0; from = 0 })).node

-- The table has the places of the nodes of the first `noted` visits, and each place in it is right.
pub record AreNoted (visits : List Visit) (place : ℕ → Option ℕ) (noted : ℕ) : Type 0 where
  pub within : noted ≤ length visits
  pub all : (k : ℕ) → k < noted → is_some (place (node_at visits k)) ≡ true
  pub stand : (node k : ℕ) → place node ≡ Some k → (k < length visits) × (node_at visits k ≡ node)
