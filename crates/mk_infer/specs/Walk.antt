-- The names that a walk visits.
use Rattle.std.specs.Prelude.{ℕ, List, [], ◌∷◌, ◌++◌}
use Rattle.mk_graph.specs.Membership.{Has}

-- A depth-first walk of `names`, from left to right, after the names `met` were visited, has
-- visited the names `all` at its end, in the order of their first visit: first a new name, then its
-- prerequisites, then the names that follow it.
pub data Meets (needs : List ℕ → List (List ℕ)) : (met names all : List (List ℕ)) → Type 0 where
  ends : {met : List (List ℕ)} → Meets needs met [] met
  known : {met names all : List (List ℕ)} {name : List ℕ} → Has met name →
      Meets needs met names all → Meets needs met (name ∷ names) all
  new : {met below names all : List (List ℕ)} {name : List ℕ} → ¬ (Has met name) →
      Meets needs (met ++ name ∷ []) (needs name) below → Meets needs below names all →
      Meets needs met (name ∷ names) all
