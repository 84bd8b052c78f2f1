-- How a makefile is mended, round by round.
use Rattle.std.specs.Prelude.{◌≡◌, ◌⊎◌, ℕ, zero, suc, true, false, not, List, find, length, fold, nat_lt, Option, None, Some, Result, Ok, Err, if◌then◌else◌}
use Rattle.mk_find.specs.declared.finding.Finding.{Finding}
use Rattle.mk_lines.specs.Names.{has_name}
use Rattle.mk_read.specs.Files.{Told}
use Rattle.mk_core_text.specs.declared.fault.Fault.{Fault}
use Rattle.mk_core_text.specs.declared.fault.Fault.TheVariants.{FileReadFailed}
use Rattle.mk_core_text.specs.declared.verdict.Verdict.{Verdict}
use Rattle.mk_core_text.specs.declared.verdict.Verdict.TheVariants.{Yes, No}
use Rattle.mk_core.specs.declared.request.Request.{Request}
use Rattle.mk_core.specs.Answer.{Answers}
use Rattle.mk_core.specs.Judging.{AnswersJudged}
use Rattle.mk_core.specs.Steps.{is_out_of_memory}
use Rattle.mk_repair.specs.Lines.{lines_text}
use Rattle.mk_repair.specs.Word.{Word, with_word}
use Rattle.mk_core_repair.specs.declared.surveying.Survey.{Survey}
use Rattle.mk_core_repair.specs.Amending.{added_text, amended_among, is_too_long, makefile_text, IsCutTo}
use Rattle.mk_core_repair.specs.declared.outcome.Stop.TheVariants.{Judged, TooLong}
use Rattle.mk_core_repair.specs.Outcome.{Outcome, Reason, mended, unmended, stopped, tried_all}
use Rattle.mk_core_repair.specs.Survey.{GivesSurvey}

-- The words with the new ones; none if none of these is new, or a finding gives no word.
abbrev pub more_words : List Word → Option (List Word) → Option (List Word)
more_words words None = None
more_words words (Some new) =
    if nat_lt (length words) (length (fold with_word words new))
    then Some (fold with_word words new) else None

-- Where a round found this and there are further words, the rounds go on with these; else the first
-- findings are the outcome, with what this round tried and found.
abbrev pub Onward : (List Word → Reason → Outcome → Type 0) → List Finding → List Word →
    List Finding → Option (List Word) → Outcome → Type 0
Onward rounds first words found None outcome =
    outcome ≡ unmended first (tried_all (lines_text words) (Ok found))
Onward rounds first words found (Some more) outcome =
    rounds more (tried_all (lines_text words) (Ok found)) outcome

-- After a yes the lines are the outcome; after a no the rounds go on with the new words.
abbrev pub AfterVerdict : (makefile : List ℕ) → (List Word → Reason → Outcome → Type 0) →
    List Finding → List Word → Verdict → Option (List Word) → Outcome → Type 0
AfterVerdict makefile rounds first words (Yes certificate recipes reads) new outcome =
    outcome ≡ mended (added_text makefile words)
AfterVerdict makefile rounds first words (No found) new outcome =
    Onward rounds first words found (more_words words new) outcome

-- The first of the files that isn't among these names.
abbrev pub first_unknown : List (List ℕ) → List (List ℕ) → Option (List ℕ)
first_unknown names files = find (λ file. not (has_name names file)) files

-- After a round that read only files among these names its verdict counts. A file with another name
-- counts as one that can't be read: then the first findings are the outcome.
abbrev pub AfterKnown : (makefile : List ℕ) → (List Word → Reason → Outcome → Type 0) →
    List Finding → List Word → Survey → Option (List ℕ) → Outcome → Type 0
AfterKnown makefile rounds first words survey None outcome =
    AfterVerdict makefile rounds first words survey.verdict survey.words outcome
AfterKnown makefile rounds first words survey (Some name) outcome =
    outcome ≡ unmended first (tried_all (lines_text words) (Err (FileReadFailed name)))

-- What follows the judgement of the makefile with the lines of these words, where the files with
-- these names are known. After a refusal the first findings are the outcome, with the lines and the
-- refusal.
abbrev pub AfterRound : (makefile : List ℕ) → (List Word → Reason → Outcome → Type 0) →
    List (List ℕ) → List Finding → List Word → Result Survey Fault → Outcome → Type 0
AfterRound makefile rounds names first words (Ok survey) outcome =
    AfterKnown makefile rounds first words survey (first_unknown names survey.files) outcome
AfterRound makefile rounds names first words (Err fault) outcome =
    (is_out_of_memory fault ≡ false) ×
    (outcome ≡ unmended first (tried_all (lines_text words) (Err fault)))

-- The answer to one round: `check` of the makefile with this text appended, among the files with
-- these names.
abbrev pub IsRound : List (List ℕ) → Told → Request → List ℕ → Result Survey Fault → Type 0
IsRound names files request text survey =
    (cut : Told) × IsCutTo names files cut ×
    Answers (amended_among cut files request text) request (AnswersJudged GivesSurvey) survey

-- The rounds that begin with these words, where this many are left. A round judges the makefile
-- with the lines of the words appended. Where no round is left, or the makefile would be too long,
-- the first findings are the outcome, with what was tried before.
unfoldable pub Rounds : ℕ → List (List ℕ) → Told → Request → List Finding → List Word → Reason →
    Outcome → Type 0
Rounds zero names files request first words before outcome =
    outcome ≡ unmended first (stopped Judged before)
Rounds (suc left) names files request first words before outcome =
    ((is_too_long files request (added_text (makefile_text files request) words) ≡ true) ×
    (outcome ≡ unmended first (stopped TooLong before))) ⊎
    ((is_too_long files request (added_text (makefile_text files request) words) ≡ false) ×
    ((survey : Result Survey Fault) ×
    IsRound names files request (added_text (makefile_text files request) words) survey ×
    AfterRound (makefile_text files request) (Rounds left names files request first) names first
    words survey outcome))

-- The most rounds: with the first judgement the makefile is judged at most 64 times.
abbrev pub max_rounds : ℕ
max_rounds = 63
