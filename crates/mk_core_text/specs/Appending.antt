-- What the functions that print nodes append to their buffers. The printed text doesn't depend on
-- this file.
use Rattle.std.specs.Prelude.{◌≡◌, ℕ, List, ◌++◌, ⊤, Result, Ok, Err}
use Rattle.mk_infer.specs.Steps as inferring
use Rattle.mk_infer.specs.declared.fault.InferFault.{InferFault}

-- The function appended the defined text to the buffer, or it failed with the defined fault or with
-- out of memory.
abbrev pub Extends : List ℕ → List ℕ → Result ⊤ InferFault → Result (List ℕ) InferFault → Type 0
Extends old new (Ok done) defined = (text : List ℕ) × (defined ≡ Ok text) × (new ≡ old ++ text)
Extends old new (Err fault) defined = inferring.Fails fault defined
