-- The texts of files other than makefiles.
use Rattle.std.specs.Prelude.{ℕ, false, List, Option, Result, Err, if◌then◌else◌}
use Rattle.std.specs.Option.{ok_or, option_map_or}
use Rattle.std.specs.Str.{bytes_eq}
use Rattle.mk_read.specs.Files.{Told, text_at}
use Rattle.mk_core_text.specs.declared.fault.Fault.{Fault}
use Rattle.mk_core_text.specs.declared.fault.Fault.TheVariants.{FileReadFailed, NoFile}

-- The text of the file with this name: `FileReadFailed` (35) if it is `failing`, the file that
-- can't be read; else `NoFile` (38) if it isn't among the files.
abbrev pub text_of : Told → Option (List ℕ) → List ℕ → Result (List ℕ) Fault
text_of files failing name =
    if option_map_or (bytes_eq name) failing false then Err (FileReadFailed name)
    else ok_or (text_at files name) (NoFile name)
