-- The JSON values of the answers of `graph`, `verify`, `simulate` and `repair`.
use Rattle.std.specs.Prelude.{ℕ, List, [], ◌∷◌, codes, Option, None, Some}
use Rattle.std.specs.Str.Lossy.{utf8_lossy}
use Rattle.serde_json.specs.Data.{Data, null, number, string, unsigned}
use Rattle.mk_json.specs.Kinds.{object_of}
use Rattle.mk_world.specs.declared.fault.StepFault.{StepFault}
use Rattle.mk_core.specs.Simulation.{Simulation}
use Rattle.mk_core_text.specs.FaultText.{step_fault_text, step_fault_words}

-- The answer of `graph` or `verify` that prints this text without `--json`.
abbrev pub printed_value : List ℕ → Data
printed_value text =
    object_of ((codes "answer", string (codes "yes")) ∷
    (codes "format", number (unsigned 1)) ∷
    (codes "text", string (utf8_lossy text)) ∷ [])

-- The answer of `simulate`: what the lines of the plan print; where a line is refused, the files
-- that are left, the number of that line, and the fault in words and with numbers.
abbrev pub run_value : (printed : List ℕ) → (refused : Option (ℕ × StepFault)) →
    (left : List ℕ) → Data
run_value printed None left =
    object_of ((codes "answer", string (codes "yes")) ∷
    (codes "format", number (unsigned 1)) ∷
    (codes "printed", string (utf8_lossy printed)) ∷ [])
run_value printed (Some (line, fault)) left =
    object_of ((codes "answer", string (codes "refused")) ∷
    (codes "format", number (unsigned 1)) ∷
    (codes "left", string (utf8_lossy left)) ∷
    (codes "line", number (unsigned line)) ∷
    (codes "printed", string (utf8_lossy printed)) ∷
    (codes "sentence", string (utf8_lossy (step_fault_words line fault))) ∷
    (codes "text", string (utf8_lossy (step_fault_text line fault))) ∷ [])

-- The answer of `repair` where these lines mend the makefile, or none are needed.
abbrev pub mended_value : List ℕ → Data
mended_value lines =
    object_of ((codes "answer", string (codes "yes")) ∷
    (codes "format", number (unsigned 1)) ∷
    (codes "lines", string (utf8_lossy lines)) ∷ [])

-- The text of the lines for a part of the findings, or null where there are none.
abbrev pub part_value : List ℕ → Data
part_value [] = null
part_value (byte ∷ rest) = string (utf8_lossy (byte ∷ rest))

-- The answer of `repair` where nothing mends the makefile, with what is said on standard error
-- without `--json`, and what `--part` prints then.
abbrev pub unmended_value : (reason part : List ℕ) → Data
unmended_value reason part =
    object_of ((codes "answer", string (codes "no")) ∷
    (codes "format", number (unsigned 1)) ∷
    (codes "part", part_value part) ∷
    (codes "reason", string (utf8_lossy reason)) ∷ [])
