-- How the lines for those findings that give some are tried, where another one gives none.
use Rattle.std.specs.Prelude.{◌≡◌, ◌⊎◌, ℕ, true, false, List, [], ◌∷◌, Option, None, Some, Result, Ok, Err}
use Rattle.mk_find.specs.declared.finding.Finding.{Finding}
use Rattle.mk_read.specs.Files.{Told}
use Rattle.mk_core_text.specs.declared.fault.Fault.{Fault}
use Rattle.mk_core_text.specs.declared.fault.Fault.TheVariants.{FileReadFailed}
use Rattle.mk_core_text.specs.declared.verdict.Verdict.{Verdict}
use Rattle.mk_core_text.specs.declared.verdict.Verdict.TheVariants.{Yes, No}
use Rattle.mk_core.specs.declared.request.Request.{Request}
use Rattle.mk_core.specs.Steps.{is_out_of_memory}
use Rattle.mk_core_repair.specs.declared.surveying.Survey.{Survey}
use Rattle.mk_core_repair.specs.Amending.{added_lines, is_too_long, makefile_text}
use Rattle.mk_core_repair.specs.Outcome.{Outcome, Part, mended, unmended, untried, no_lines, taken, refused_lines, long_lines}
use Rattle.mk_core_repair.specs.Rounds.{IsRound, first_unknown}

-- These findings are the outcome, since one of them gives no word, for this reason; and this comes
-- of the lines of the others.
abbrev pub with_part : List Finding → (why : List ℕ) → Part → Outcome
with_part found why part = unmended found (untried why part)

-- The outcome by the verdict on the makefile with this text of the lines at its end: after a yes they
-- mend it; after a no they are a part.
abbrev pub verdict_part : (Part → Outcome) → (lines text : List ℕ) → Verdict → Outcome
verdict_part ends lines text (Yes certificate recipes reads) = mended text
verdict_part ends lines text (No left) = ends (taken lines text left)

-- That outcome; but where a file was read that isn't known, with this name, it counts as one that
-- can't be read.
abbrev pub known_part : (Part → Outcome) → (lines text : List ℕ) → Verdict → Option (List ℕ) →
    Outcome
known_part ends lines text verdict None = verdict_part ends lines text verdict
known_part ends lines text verdict (Some name) = ends (refused_lines lines (FileReadFailed name))

-- What follows the judgement of the makefile with this text of the lines, where the files with these
-- names are known.
abbrev pub AfterTrial : (Part → Outcome) → List (List ℕ) → (lines text : List ℕ) →
    Result Survey Fault → Outcome → Type 0
AfterTrial ends names lines text (Ok survey) outcome =
    outcome ≡ known_part ends lines text survey.verdict (first_unknown names survey.files)
AfterTrial ends names lines text (Err fault) outcome =
    (is_out_of_memory fault ≡ false) × (outcome ≡ ends (refused_lines lines fault))

-- The makefile is judged with this text of the lines, unless it would be too long.
abbrev pub Tries : List (List ℕ) → Told → Request → (Part → Outcome) → (lines text : List ℕ) →
    Outcome → Type 0
Tries names files request ends lines text outcome =
    ((is_too_long files request text ≡ true) × (outcome ≡ ends long_lines)) ⊎
    ((is_too_long files request text ≡ false) ×
    ((survey : Result Survey Fault) × IsRound names files request text survey ×
    AfterTrial ends names lines text survey outcome))

-- The lines are tried, if there are any.
abbrev pub Trial : List (List ℕ) → Told → Request → (Part → Outcome) → (lines : List ℕ) →
    Outcome → Type 0
Trial names files request ends [] outcome = outcome ≡ ends no_lines
Trial names files request ends (byte ∷ rest) outcome =
    Tries names files request ends (byte ∷ rest)
    (added_lines (makefile_text files request) (byte ∷ rest)) outcome
