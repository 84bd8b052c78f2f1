-- The options of the old build.
use Rattle.std.specs.Prelude.{ℕ, ◌+◌, ◌-◌, Bool, true, false, not, ◌&&◌, List, [], ◌∷◌, codes, Option, None, Some, Result, Ok, Err, if◌then◌else◌}
use Rattle.std.specs.Option.{is_none}
use Rattle.std.specs.Str.{bytes_eq}
use Rattle.mk_lines.specs.Paths.{is_plain_path}
use Rattle.mk_read.specs.declared.fault.ReadFault.TheVariants.{BadName}
use Rattle.mk_core_text.specs.declared.fault.Fault.{Fault}
use Rattle.mk_core_text.specs.declared.fault.Fault.TheVariants.{Read}
use Rattle.mk_core.specs.declared.request.Request.{Request}
use Rattle.mk_core.specs.Steps.{◌>>=◌}
use Rattle.mk_core_since.specs.declared.options.Options.{Options}
use Rattle.mk_core_since.specs.Words.{is_some_text, lines_of}

-- The name of the old build's options in its folder.
abbrev pub options_name : List ℕ
options_name = codes "options"

-- No option: the default text is read.
abbrev pub no_options : Options
no_options = record { makefile = None; defaults = true; awaits = false }

-- The refusal of this line of the options: `BadName` (27).
abbrev pub bad_option : ℕ → List ℕ → Fault
bad_option n line = Read (BadName (record { file = options_name; line = n }) line)

-- A name of a makefile is a plain path, and not `-`.
abbrev pub is_makefile_name : List ℕ → Bool
is_makefile_name name = is_plain_path name && not (bytes_eq name (codes "-"))

-- The options with the makefile's name on line n, or the refusal of the name; where the line is
-- empty, that of the `-f` before it.
abbrev pub with_makefile : Options → ℕ → List ℕ → Result Options Fault
with_makefile options n line =
    if is_some_text line then (
    if is_makefile_name line then Ok (record options { makefile = Some line; awaits = false })
    else Err (bad_option n line)
    )
    else Err (bad_option (n - 1) (codes "-f"))

-- The options with that of line n, which is the first `-f`, a `-r`, or empty; else its refusal.
abbrev pub with_option : Options → ℕ → List ℕ → Result Options Fault
with_option options n line =
    if bytes_eq line (codes "-r") then Ok (record options { defaults = false })
    else (
    if bytes_eq line (codes "-f") && is_none options.makefile
    then Ok (record options { awaits = true })
    else (if is_some_text line then Err (bad_option n line) else Ok options)
    )

-- The options with what line n says, which is the makefile's name if the line before is `-f`.
abbrev pub with_line : Options → ℕ → List ℕ → Result Options Fault
with_line options n line =
    if options.awaits then with_makefile options n line else with_option options n line

-- The options with what the lines say, which are counted from n. A `-f` on the last of them is
-- refused.
abbrev pub options_from : ℕ → Options → List (List ℕ) → Result Options Fault
options_from n options [] =
    if options.awaits then Err (bad_option (n - 1) (codes "-f")) else Ok options
options_from n options (line ∷ lines) =
    with_line options n line >>= λ next. options_from (n + 1) next lines

-- The options in a text.
abbrev pub options_in : List ℕ → Result Options Fault
options_in text = options_from 1 no_options (lines_of text)

-- The options in this text; without a text those of the request.
abbrev pub options_by : Option (List ℕ) → Request → Result Options Fault
options_by None request =
    Ok (record { makefile = request.makefile; defaults = request.defaults; awaits = false })
options_by (Some text) request = options_in text
