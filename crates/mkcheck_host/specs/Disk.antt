-- The disk as contracts see it.
use Rattle.std.specs.Prelude.{◌≡◌, ℕ, List, Option, IsSome, Result, Ok, Err, Vec}
use Rattle.std.specs.Option.{option_map}
use Rattle.std.specs.declared.alloc.Global.{Global}
use Rattle.mk_read.specs.Files.{Told}
use Rattle.mk_read_files.specs.Answers.{Answers, Fits}
use Rattle.mk_read_files.specs.declared.files.FilesError.{FilesError}
use Rattle.mk_read_files.specs.declared.files.FilesError.TheVariants.{ReadFailed, Memory}
use Rattle.mkcheck_host.specs.declared.disk.Disk.{Disk}

-- What was answered.
abbrev pub answers_of : {O : Type 0} → Disk O → Answers
answers_of disk = disk.answered.given

-- The names of the files whose reads failed, the last one first.
abbrev pub failed_of : {O : Type 0} → Disk O → List (List ℕ)
failed_of disk = (answers_of disk).failed

-- The map fits what was answered.
abbrev pub FitsDisk : {O : Type 0} → Disk O → Told → Type 0
FitsDisk disk told = Fits (answers_of disk).found told

-- The name of a file with these bytes, or a name without a file, was read: the answer is all of the
-- bytes, or that there is no file. `ReadFailed` comes only where there is a file.
abbrev pub IsReading : Option (List ℕ) → Result (Option (Vec ℕ Global)) FilesError → Type 0
IsReading held (Ok found) = option_map (λ (text : Vec ℕ Global). text.items) found ≡ held
IsReading held (Err ReadFailed) = IsSome held
IsReading held (Err Memory) = Unit {0}
