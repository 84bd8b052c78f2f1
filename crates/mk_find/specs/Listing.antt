-- The candidates that are findings.
use Rattle.std.specs.Prelude.{List, [], ◌∷◌, ◌≡◌, ◌⊎◌}
use Rattle.mk_subject.specs.Subject.{Subject}
use Rattle.mk_find.specs.Candidates.{Candidate, IsFinding}

-- The second list has exactly those candidates of the first whose condition holds, in their order.
pub data Lists (x : Subject) : List Candidate → List Candidate → Type 0 where
  nothing : Lists x [] []
  keeps : {c : Candidate} {all kept : List Candidate} → IsFinding x c → Lists x all kept →
      Lists x (c ∷ all) (c ∷ kept)
  drops : {c : Candidate} {all kept : List Candidate} → ¬ (IsFinding x c) → Lists x all kept →
      Lists x (c ∷ all) kept

-- It is the first element of the list that meets the condition.
abbrev pub IsFirstIn : {A : Type 0} → (A → Type 0) → List A → A → Type 0
IsFirstIn P [] found = ⊥
IsFirstIn P (x ∷ xs) found = (P x × (x ≡ found)) ⊎ ((¬ (P x)) × IsFirstIn P xs found)
