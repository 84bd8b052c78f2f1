-- The contracts of the parts of a round. The meaning of an answer doesn't depend on this file.
use Rattle.std.specs.Prelude.{◌≡◌, ℕ, Bool, true, false, List, Option, None, Some}
use Rattle.mk_find.specs.declared.finding.Finding.{Finding}
use Rattle.mk_core_text.specs.declared.verdict.Verdict.{Verdict}
use Rattle.mk_core_text.specs.declared.verdict.Verdict.TheVariants.{Yes, No}
use Rattle.mk_repair.specs.Word.{Word}
use Rattle.mk_core_repair.specs.declared.rounds.End.{End}
use Rattle.mk_core_repair.specs.declared.rounds.End.TheVariants as ends
use Rattle.mk_core_repair.specs.declared.rounds.Found.{Found}
use Rattle.mk_core_repair.specs.declared.rounds.Found.TheVariants.{Right, Unknown, Lacks}
use Rattle.mk_core_repair.specs.declared.surveying.Survey.{Survey}
use Rattle.mk_core_repair.specs.Outcome.{Outcome, mended, unmended, reason_of}
use Rattle.mk_core_repair.specs.Rounds.{first_unknown, more_words}

-- The outcome for an end of the rounds, after these first findings.
abbrev pub end_outcome : List Finding → End → Outcome
end_outcome first (ends.Mended text) = mended text.items
end_outcome first (ends.Unmended why) = unmended first (reason_of why)

-- There are more words, and these are all; or there are none.
abbrev pub HasMore : Bool → List Word → Option (List Word) → Type 0
HasMore true words more = more ≡ Some words
HasMore false words more = more ≡ None

-- The verdict is a yes.
abbrev pub IsYesVerdict : Verdict → Type 0
IsYesVerdict (Yes certificate recipes reads) = Unit {0}
IsYesVerdict (No found) = ⊥

-- What a round found, by its survey: a file with a name that isn't known; else a yes, or a no with
-- its findings, by which the old words became the new ones.
abbrev pub IsFound : List (List ℕ) → (old new : List Word) → Survey → Found → Type 0
IsFound names old new survey Right =
    (first_unknown names survey.files ≡ None) × IsYesVerdict survey.verdict
IsFound names old new survey (Unknown name) = first_unknown names survey.files ≡ Some name
IsFound names old new survey (Lacks found is_new) =
    (first_unknown names survey.files ≡ None) × (survey.verdict ≡ No found) ×
    HasMore is_new new (more_words old survey.words)
