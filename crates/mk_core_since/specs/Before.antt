-- The request for the old build.
use Rattle.std.specs.Prelude.{◌≡◌, ◌⊎◌, ℕ, false, List, codes, Some, Result, Ok, Err}
use Rattle.mk_read.specs.Files.{Told, text_at}
use Rattle.mk_core_text.specs.declared.fault.Fault.{Fault}
use Rattle.mk_core_text.specs.declared.fault.Fault.TheVariants.{FileReadFailed, Memory}
use Rattle.mk_core.specs.declared.request.Request.{Request}
use Rattle.mk_core.specs.Steps.{◌>>=◌}
use Rattle.mk_core_since.specs.declared.options.Options.{Options}
use Rattle.mk_core_since.specs.Options.{options_by, options_name}
use Rattle.mk_core_since.specs.Words.{given_by, words_name}

-- The name of the old build's footprint file in its folder.
abbrev pub book_name : List ℕ
book_name = codes "footprint.json"

-- The request for the old build with these operands and goals, these options, and its footprint
-- file.
abbrev pub old_request : Request → List (List ℕ) × List (List ℕ) → Options → Request
old_request request given options =
    record request {
      makefile = options.makefile;
      defaults = options.defaults;
      operands = given.0;
      goals = given.1;
      book = Some book_name;
      commands = false;
    }

-- The request for the old build with these operands and goals when its folder has these contents,
-- or the fault of its options.
abbrev pub with_options : Told → Request → List (List ℕ) × List (List ℕ) → Result Request Fault
with_options was request given = do
  options ← options_by (text_at was options_name) request
  Ok (old_request request given options)

-- The request for the old build when its folder has these contents: with its footprint file, its
-- operands and goals and its options; or the fault of its words or else of its options.
abbrev pub before : Told → Request → Result Request Fault
before was request = do
  given ← given_by (text_at was words_name) request
  with_options was request given

-- An answer that is out of memory, or the failed read of the words or of the options, or this one.
abbrev pub IsUnlessFailed : {A : Type 0} → Result A Fault → Result A Fault → Type 0
IsUnlessFailed answer given =
    (given ≡ Err Memory) ⊎ (given ≡ Err (FileReadFailed words_name)) ⊎
    (given ≡ Err (FileReadFailed options_name)) ⊎ (given ≡ answer)
