-- A depth-first, left-to-right walk, and the first closed path that it finds.
use Rattle.std.specs.Prelude.{ℕ, List, [], ◌∷◌, ◌++◌, ◌==◌, if◌then◌else◌}
use Rattle.mk_graph.specs.Membership.{Has}

-- The walk completes with these finished nodes, the last one first, or it closes a path.
pub data WalkEnd : Type 0 where
  Through : (finished : List ℕ) → WalkEnd
  Closes : (path : List ℕ) → WalkEnd

-- The nodes under way from n to the innermost one, n first, where `under` lists the innermost
-- first.
abbrev pub path_from : ℕ → List ℕ → List ℕ
path_from n [] = []
path_from n (m ∷ under) = if m == n then m ∷ [] else path_from n under ++ m ∷ []

-- The closed path from n, which is under way, back to n.
abbrev pub closed_path : ℕ → List ℕ → List ℕ
closed_path n under = path_from n under ++ n ∷ []

-- A walk of the nodes `todo` has this end, if the nodes `under` are under way, the innermost first,
-- and the nodes `finished` are finished.
pub data Walks (needs : ℕ → List ℕ) : (under finished todo : List ℕ) → WalkEnd → Type 0 where
  -- Nothing is left to do.
  ends : {under finished : List ℕ} → Walks needs under finished [] (Through finished)
  -- A finished node is skipped.
  passes : {under finished todo : List ℕ} {n : ℕ} {end : WalkEnd} → Has finished n →
      Walks needs under finished todo end → Walks needs under finished (n ∷ todo) end
  -- A node that is under way closes a path.
  closes : {under finished todo : List ℕ} {n : ℕ} → Has under n →
      Walks needs under finished (n ∷ todo) (Closes (closed_path n under))
  -- The prerequisites of a new node close a path.
  breaks : {under finished todo path : List ℕ} {n : ℕ} → ¬ (Has under n) → ¬ (Has finished n) →
      Walks needs (n ∷ under) finished (needs n) (Closes path) →
      Walks needs under finished (n ∷ todo) (Closes path)
  -- A new node is finished after its prerequisites.
  finishes : {under finished todo middle : List ℕ} {n : ℕ} {end : WalkEnd} → ¬ (Has under n) →
      ¬ (Has finished n) → Walks needs (n ∷ under) finished (needs n) (Through middle) →
      Walks needs under (n ∷ middle) todo end → Walks needs under finished (n ∷ todo) end
