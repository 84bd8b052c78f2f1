-- What opening a file gives.
use Rattle.std.specs.Prelude.{◌≡◌, ◌⊎◌, ℕ, List, Option, None, IsSome, Result, Ok, Err}
use Rattle.std.specs.IoError.{error_kind}
use Rattle.std.specs.declared.io.Error.{Error}
use Rattle.std.specs.declared.io.ErrorKind.TheVariants.{NotFound, OutOfMemory}

-- The name of a file with these bytes, or a name without a file, was opened. An opened file has all
-- of its bytes left to be read. `NotFound` comes only where there is no such file. Where there is
-- none, nothing but `NotFound` comes, or out of memory.
abbrev pub IsOpening : {F : Type 0} → (F → Option (List ℕ)) → Option (List ℕ) → Result F Error →
    Type 0
IsOpening remaining held (Ok file) = IsSome held × (remaining file ≡ held)
IsOpening remaining held (Err error) =
    (error_kind error ≡ NotFound → held ≡ None) ×
    (held ≡ None → (error_kind error ≡ NotFound) ⊎ (error_kind error ≡ OutOfMemory))
