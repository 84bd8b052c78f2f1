-- Ways in a graph that is given by the successors of each node, and the order of ways.
use Rattle.std.specs.Prelude.{◌≡◌, ℕ, suc, ◌<◌, List, [], ◌∷◌, ◌==◌, if◌then◌else◌, ◌⊎◌, slice_index_or, reverse}
use Rattle.mk_graph.specs.Membership.{Has}

-- The successors of a node: its row, or none if it has no row.
abbrev pub successors : List (List ℕ) → ℕ → List ℕ
successors rows n = slice_index_or rows n []

-- The node at the end of a way from t. A way is the list of its steps, the last one first, without
-- t.
abbrev pub end : ℕ → List ℕ → ℕ
end t [] = t
end t (n ∷ way) = n

-- The steps form a way from t: each goes to a successor of the node before.
abbrev pub IsWay : (ℕ → List ℕ) → ℕ → List ℕ → Type 0
IsWay succ t [] = Unit {0}
IsWay succ t (n ∷ way) = Has (succ (end t way)) n × IsWay succ t way

-- The position of the first n in the list, or the length of the list if n isn't in it.
abbrev pub place : List ℕ → ℕ → ℕ
place [] n = 0
place (m ∷ ms) n = if m == n then 0 else suc (place ms n)

-- The order of ways: shorter ways come first, and among equally long ways the first differing step
-- decides, by its position among the successors.
abbrev pub Precedes : (ℕ → List ℕ) → ℕ → List ℕ → List ℕ → Type 0
Precedes succ t [] [] = ⊥
Precedes succ t [] (n ∷ other) = Unit {0}
Precedes succ t (m ∷ way) [] = ⊥
Precedes succ t (m ∷ way) (n ∷ other) =
    Precedes succ t way other ⊎
    ((way ≡ other) × (place (succ (end t way)) m < place (succ (end t way)) n))

-- The way is the first of those whose end satisfies P.
pub record IsFirstWay (succ : ℕ → List ℕ) (t : ℕ) (P : ℕ → Type 0) (way : List ℕ) : Type 0 where
  pub is_way : IsWay succ t way
  pub arrives : P (end t way)
  pub before : (other : List ℕ) → IsWay succ t other → P (end t other) →
      (other ≡ way) ⊎ Precedes succ t way other

-- The way is the first of those with the same end.
abbrev pub IsFirstThere : (ℕ → List ℕ) → ℕ → List ℕ → Type 0
IsFirstThere succ t way = IsFirstWay succ t (λ n. n ≡ end t way) way

-- The nodes along a way, from t to its end.
abbrev pub along : ℕ → List ℕ → List ℕ
along t way = t ∷ reverse way
