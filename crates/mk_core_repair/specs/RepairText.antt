-- The printed text of what comes of mending a makefile.
use Rattle.std.specs.Prelude.{ℕ, ◌==◌, Bool, true, false, List, [], ◌∷◌, ◌++◌, codes, Result, Ok, Err, if◌then◌else◌}
use Rattle.std.specs.List.{flat_map, list_any}
use Rattle.mk_find.specs.declared.finding.Finding.{Finding}
use Rattle.mk_find.specs.declared.finding.Finding.TheVariants.{OtherCommands}
use Rattle.mk_core_text.specs.FaultText.{fault_text}
use Rattle.mk_core_text.specs.VerdictText.{findings_text}
use Rattle.mk_core_text.specs.declared.fault.Fault.{Fault}
use Rattle.mk_core_repair.specs.declared.outcome.Stop.{Stop}
use Rattle.mk_core_repair.specs.declared.outcome.Stop.TheVariants.{NoMore, Judged, TooLong}
use Rattle.mk_core_repair.specs.Outcome.{Outcome, Part, Reason, right, mended, unmended, no_lines, taken, refused_lines, long_lines, untried, too_long, cycle, tried}

-- That the names form a cycle, each after a space, with a newline.
abbrev pub cycle_line : List (List ℕ) → List ℕ
cycle_line names =
    codes "no lines mend this, since each of these names needs the next one:" ++
    (flat_map (λ name. 32 ∷ name) names ++ codes "\n")

-- The word, where a line begins.
abbrev pub lead : (word : List ℕ) → Bool → List ℕ
lead word begins = if begins then word else []

-- The text with the word at the beginning of each line, where a line begins with it or doesn't.
abbrev pub led : (word : List ℕ) → Bool → List ℕ → List ℕ
led word begins [] = []
led word begins (byte ∷ rest) = lead word begins ++ byte ∷ led word (byte == 10) rest

-- What `check` prints for these findings or this fault.
abbrev pub checked_text : Result (List Finding) Fault → List ℕ
checked_text (Ok found) = findings_text found
checked_text (Err fault) = fault_text fault ++ codes "\n"

-- The finding is of commands that aren't the recorded ones.
abbrev pub is_other_commands : Finding → Bool
is_other_commands (OtherCommands recipe) = true
is_other_commands found = false

-- What to do where lines change commands.
abbrev pub record_again : Result (List Finding) Fault → List ℕ
record_again (Ok found) =
    if list_any is_other_commands found
    then codes "these lines change commands: append them, and record again\n" else []
record_again (Err fault) = []

-- What comes of the lines for those findings that give some: the lines, and what `check` prints with
-- them; or those that were tried, and the refusal; or that the makefile would be too long with them.
abbrev pub others_text : Part → List ℕ
others_text no_lines = []
others_text (taken lines text left) =
    codes "lines for the other findings:\n" ++ (led (codes "  add: ") true lines ++
    (codes "with these lines mkcheck check says:\n" ++
    (checked_text (Ok left) ++ record_again (Ok left))))
others_text (refused_lines lines fault) =
    codes "no lines for the other findings:\n" ++ (led (codes "tried ") true lines ++
    (codes "with these lines mkcheck check says:\n" ++ checked_text (Err fault)))
others_text long_lines =
    codes "with lines for the other findings the makefile would have more than 16777216 bytes\n"

-- Why no further lines were tried, where a limit was met.
abbrev pub stop_text : Stop → List ℕ
stop_text NoMore = []
stop_text Judged =
    codes "the makefile was judged 64 times: append these lines, and run mkcheck repair again\n"
stop_text TooLong = codes "with further lines the makefile would have more than 16777216 bytes\n"

-- The text of why nothing mends a makefile: the finding that no line mends, and what comes of the
-- lines of the others; that it would be too long with the lines; the cycle; or the lines that were
-- tried, what `check` prints with them, and the limit that was met.
abbrev pub reason_text : Reason → List ℕ
reason_text (untried why part) =
    why ++ (codes "; mkcheck check -w says what to do\n" ++ others_text part)
reason_text too_long =
    codes "with the lines that mend this the makefile would have more than 16777216 bytes\n"
reason_text (cycle names) = cycle_line names
reason_text (tried text after stop) =
    led (codes "tried ") true text ++ (codes "with these lines mkcheck check says:\n" ++
    (checked_text after ++ (record_again after ++ stop_text stop)))

-- What `mkcheck repair` prints on standard output: the text that mends the makefile; else nothing.
abbrev pub outcome_text : Outcome → List ℕ
outcome_text right = []
outcome_text (mended text) = text
outcome_text (unmended found reason) = []

-- What `mkcheck repair --part` prints of the reason: the text of the lines for the other findings.
abbrev pub reason_part : Reason → List ℕ
reason_part (untried why (taken lines text left)) = text
reason_part reason = []

-- What `mkcheck repair --part` prints on standard output: the text that mends the makefile; else
-- that of the lines for the other findings.
abbrev pub outcome_part : Outcome → List ℕ
outcome_part right = []
outcome_part (mended text) = text
outcome_part (unmended found reason) = reason_part reason

-- What it prints on standard error: for a makefile that isn't mended its findings, and why nothing
-- mends it.
abbrev pub outcome_message : Outcome → List ℕ
outcome_message right = []
outcome_message (mended text) = []
outcome_message (unmended found reason) = findings_text found ++ reason_text reason
