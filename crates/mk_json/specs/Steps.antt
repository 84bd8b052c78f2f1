-- Results in sequence: the first error is the result of the whole.
use Rattle.std.specs.Prelude.{⊤, List, [], ◌∷◌, Bool, if◌then◌else◌, Result, Ok, Err}
pub use Rattle.mk_lines.specs.Results.{◌>>=◌}

-- success if the test holds, else this error
abbrev pub check_that : {E : Type 0} → E → Bool → Result ⊤ E
check_that fault test = if test then Ok tt else Err fault

-- the results of f for all elements of a list, or the first error
unfoldable pub each : {A B E : Type 0} → (A → Result B E) → List A → Result (List B) E
each f [] = Ok []
each f (x ∷ xs) = do
  y ← f x
  ys ← each f xs
  Ok (y ∷ ys)
