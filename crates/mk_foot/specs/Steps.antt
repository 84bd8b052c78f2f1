-- Results in sequence, with the faults of footprint files.
use Rattle.std.specs.Prelude.{⊤, List, [], ◌∷◌, Result, Ok}
use Rattle.mk_foot.specs.declared.fault.FootFault.{FootFault}
use Rattle.mk_foot.specs.declared.fault.FootFault.TheVariants.{Memory}
pub use Rattle.mk_json.specs.Steps.{◌>>=◌, check_that}
unfoldable pub use Rattle.mk_json.specs.Steps.{each}
use Rattle.mk_lines.specs.Results as results

-- success if the test holds for all elements of the list, else the first fault
unfoldable pub test_each : {A : Type 0} → (A → Result ⊤ FootFault) → List A → Result ⊤ FootFault
test_each test [] = Ok tt
test_each test (x ∷ xs) = do
  _ ← test x
  test_each test xs

-- A call returned what is defined, seen by `view`, or ran out of memory.
abbrev pub Gives : {X Y : Type 0} → (X → Y) → Result X FootFault → Result Y FootFault → Type 0
Gives = results.Gives Memory
