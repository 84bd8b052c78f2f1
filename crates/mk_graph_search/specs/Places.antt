-- The places of ways. Each node that can be reached has a first way, and these ways are listed in
-- the order of ways; a place is a position in this list.
use Rattle.std.specs.Prelude.{◌≡◌, ℕ, ◌<◌, ◌≤◌, List, [], ◌∷◌, ◌++◌, ◌⊎◌, length, map}
use Rattle.mk_graph.specs.Membership.{Has}
use Rattle.mk_graph_search.specs.Ways.{end, along, IsWay, Precedes, IsFirstThere}

-- What a search runs over: rows of successors, and the start node.
pub record SearchInput : Type 0 where
  pub rows : List (List ℕ)
  pub start : ℕ

-- Each way precedes all ways after it in the list.
abbrev pub IsRising : (ℕ → List ℕ) → ℕ → List (List ℕ) → Type 0
IsRising succ t [] = Unit {0}
IsRising succ t (way ∷ ways) =
    ((other : List ℕ) → Has ways other → Precedes succ t way other) × IsRising succ t ways

-- These ways are a beginning of the ordered list of all first ways: each is the first way to its
-- end, they are in order, and every other way has the same end as one of them or comes after all of
-- them.
pub record IsBeginning (succ : ℕ → List ℕ) (t : ℕ) (ways : List (List ℕ)) : Type 0 where
  pub first : (way : List ℕ) → Has ways way → IsFirstThere succ t way
  pub rising : IsRising succ t ways
  pub others : (other : List ℕ) → IsWay succ t other →
      Has (map (end t) ways) (end t other) ⊎
      ((way : List ℕ) → Has ways way → Precedes succ t way other)

-- The way is at this place of the list of first ways: exactly `place` ways come before it.
pub record StandsAt (succ : ℕ → List ℕ) (t place : ℕ) (way : List ℕ) : Type 0 where
  pub preceding : List (List ℕ)
  pub many : length preceding ≡ place
  pub beginning : IsBeginning succ t (preceding ++ way ∷ [])

-- The way at this place ends at this node.
pub record EndsAt (succ : ℕ → List ℕ) (t place node : ℕ) : Type 0 where
  pub way : List ℕ
  pub stands : StandsAt succ t place way
  pub ends : end t way ≡ node

-- The way at this place goes along these nodes, from the start to its end.
pub record GoesAt (succ : ℕ → List ℕ) (t place : ℕ) (nodes : List ℕ) : Type 0 where
  pub way : List ℕ
  pub stands : StandsAt succ t place way
  pub goes : nodes ≡ along t way

-- The list of first ways has at most `count` ways.
pub record HasAtMost (succ : ℕ → List ℕ) (t count : ℕ) : Type 0 where
  pub ways : List (List ℕ)
  pub few : length ways ≤ count
  pub beginning : IsBeginning succ t ways
  pub all : (other : List ℕ) → IsWay succ t other → Has (map (end t) ways) (end t other)

-- No way leads to the node.
abbrev pub IsOut : (ℕ → List ℕ) → ℕ → ℕ → Type 0
IsOut succ t node = (way : List ℕ) → IsWay succ t way → ¬ (end t way ≡ node)

-- No way at a place before this one ends at the node.
abbrev pub IsOutBefore : (ℕ → List ℕ) → (t place node : ℕ) → Type 0
IsOutBefore succ t place node = (k : ℕ) → k < place → ¬ (EndsAt succ t k node)
