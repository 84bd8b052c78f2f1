-- The state of a search.
use Rattle.std.specs.Prelude.{◌≡◌, ℕ, ◌<◌, List, [], ◌∷◌, ◌++◌, length, map, ◌⊎◌, slice_index_or}
use Rattle.mk_graph.specs.Membership.{Has, IsDistinct}
use Rattle.mk_graph_search.specs.declared.visits.Visit.{Visit}
use Rattle.mk_graph_search.specs.Ways.{end, IsWay, Precedes}
use Rattle.mk_graph_search.specs.Places.{IsRising}

-- One of these ways has the same end as the other way, and is that way or precedes it.
pub record IsMet (succ : ℕ → List ℕ) (t : ℕ) (ways : List (List ℕ)) (other : List ℕ) : Type 0 where
  pub way : List ℕ
  pub among : Has ways way
  pub leads : end t way ≡ end t other
  pub no_later : (way ≡ other) ⊎ Precedes succ t way other

-- The state of a search that has found these ways: those in `done` are expanded, and of the first
-- way in `rest` the successors in `looked` have been visited so far.
pub record IsUnderWay
    (succ : ℕ → List ℕ) (t : ℕ) (ways done rest : List (List ℕ)) (looked : List ℕ) : Type 0 where
  pub split : ways ≡ done ++ rest
  pub start : Has ways []
  pub are : (way : List ℕ) → Has ways way → IsWay succ t way
  pub rising : IsRising succ t ways
  pub apart : IsDistinct (map (end t) ways)
  pub parents : (n : ℕ) (way : List ℕ) → Has ways (n ∷ way) →
      Has done way ⊎ ((later : List (List ℕ)) × (rest ≡ way ∷ later) × Has looked n)
  pub met : (way : List ℕ) → Has done way → (n : ℕ) → Has (succ (end t way)) n →
      IsMet succ t ways (n ∷ way)
  pub met_here : (way : List ℕ) (later : List (List ℕ)) → rest ≡ way ∷ later → (n : ℕ) →
      Has looked n → IsMet succ t ways (n ∷ way)
  pub begun : (way : List ℕ) (later : List (List ℕ)) → rest ≡ way ∷ later →
      (left : List ℕ) × (succ (end t way) ≡ looked ++ left)

-- The visit at a place.
abbrev pub visit_at : List Visit → ℕ → Visit
visit_at visits k = slice_index_or visits k (record { node = 0; from = 0 })

-- The nodes that were visited.
abbrev pub nodes_of : List Visit → List ℕ
nodes_of visits = map (λ (visit : Visit). visit.node) visits

-- The new visits are the old ones, with a visit of the node added if it had none.
abbrev pub IsVisited : (old new : List Visit) → (node from : ℕ) → Type 0
IsVisited old new node from =
    (Has (nodes_of old) node × (new ≡ old)) ⊎
    ((¬ (Has (nodes_of old) node)) × (new ≡ old ++ record { node = node; from = from } ∷ []))

-- The ways to the visited nodes: the first visit is the start, and each later one extends the way
-- of an earlier one by a step.
pub record AreWaysOf (t : ℕ) (visits : List Visit) (ways : List (List ℕ)) : Type 0 where
  pub ends : map (end t) ways ≡ nodes_of visits
  pub first : slice_index_or ways 0 [] ≡ []
  pub earlier : (k : ℕ) → k < length visits → 0 < k → (visit_at visits k).from < k
  pub further : (k : ℕ) → k < length visits → 0 < k →
      slice_index_or ways k [] ≡
      (visit_at visits k).node ∷ slice_index_or ways (visit_at visits k).from []

-- A search with these visits that has expanded the first `at` nodes and visited `looked` successors
-- of the next one.
pub record Stands (succ : ℕ → List ℕ) (t : ℕ) (visits : List Visit) (at looked : ℕ) : Type 0 where
  pub ways : List (List ℕ)
  pub done : List (List ℕ)
  pub rest : List (List ℕ)
  pub seen : List ℕ
  pub so_many : length done ≡ at
  pub so_far : length seen ≡ looked
  pub follow : AreWaysOf t visits ways
  pub under_way : IsUnderWay succ t ways done rest seen
