-- One more answer of a reader.
use Rattle.std.specs.Prelude.{ℕ, List, ◌∷◌, Option, Vec, Result, Ok, Err}
use Rattle.std.specs.Option.{option_map}
use Rattle.std.specs.declared.alloc.Global.{Global}
use Rattle.mk_read_files.specs.Answers.{Answers}
use Rattle.mk_read_files.specs.declared.answered.Answer.{Answer}
use Rattle.mk_read_files.specs.declared.files.FilesError.{FilesError}
use Rattle.mk_read_files.specs.declared.files.FilesError.TheVariants.{ReadFailed, Memory}

-- The answers after a read of this name gave this. Where memory ran out, nothing was answered.
abbrev pub with_read : Answers → List ℕ → Result (Option (Vec ℕ Global)) FilesError → Answers
with_read given name (Ok found) =
    record given {
      found = (name, option_map (λ (text : Vec ℕ Global). text.items) found) ∷ given.found;
    }
with_read given name (Err ReadFailed) = record given { failed = name ∷ given.failed }
with_read given name (Err Memory) = given

-- The answers with this one before them.
abbrev pub noted : Answers → Answer → Answers
noted given answer = with_read given answer.name.now answer.result.now
