-- What one judgement finds: the verdict, the words of its findings, and which files were read.
use Rattle.std.specs.Prelude.{◌≡◌, ℕ, true, List, [], ◌++◌, fold, Option, None, Some, Result, Ok}
use Rattle.std.specs.List.{list_any}
use Rattle.std.specs.String.{string_bytes}
use Rattle.mk_subject.specs.Subject.{Subject, footprints}
use Rattle.mk_build_needs.specs.NeedsGraph.{needs_graph, IsFirstCycle}
use Rattle.mk_find.specs.Findings.{AreHidden}
use Rattle.mk_find.specs.declared.finding.Finding.{Finding}
use Rattle.mk_core.specs.CheckAnswer.{IsVerdict}
use Rattle.mk_core_text.specs.declared.fault.Fault.{Fault}
use Rattle.mk_core_text.specs.declared.verdict.Verdict.{Verdict}
use Rattle.mk_core_text.specs.declared.verdict.Verdict.TheVariants.{Yes, No}
use Rattle.mk_repair.specs.FindingWords as findings
use Rattle.mk_repair.specs.Lines.{lines_text}
use Rattle.mk_repair.specs.Obstacle.{first_wordless, why_stuck}
use Rattle.mk_repair.specs.Word.{Word, with_word}
use Rattle.mk_claims.specs.Offers.{Offer, open_words}
use Rattle.mk_claims.specs.Shown.{all_claims, is_static}
use Rattle.mk_claims.specs.Wider.{AreOn}
use Rattle.mk_repair.specs.declared.obstacle.Obstacle.{Obstacle}
use Rattle.mk_core_repair.specs.declared.surveying.Survey.{Survey}
use Rattle.mk_core_repair.specs.declared.surveying.First.{First}

-- The words of the findings of a verdict; none if one of the findings gives no word. A yes lacks no
-- word.
abbrev pub words_for : Subject → Verdict → Option (List Word)
words_for x (Yes certificate recipes reads) = Some []
words_for x (No found) = findings.words_of x found

-- The verdict on the subject, the words of its findings, and the names of the makefile's texts and
-- of the missing files that its reading passed over.
pub record IsSurvey (x : Subject) (survey : Survey) : Type 0 where
  pub is_verdict : IsVerdict x survey.verdict
  pub has_words : survey.words ≡ words_for x survey.verdict
  pub has_files : survey.files ≡ x.makefile.texts ++ x.makefile.passed_over

-- The answer is the survey of the subject, without a fault.
abbrev pub GivesSurvey : Subject → Result Survey Fault → Type 0
GivesSurvey x answer = (survey : Survey) × IsSurvey x survey × (answer ≡ Ok survey)

-- The first cycle of what the nodes need, where a no has words; else nothing is said.
abbrev pub IsCycleFor : Subject → Verdict → Option (List Word) → Option (List (List ℕ)) → Type 0
IsCycleFor x (No found) (Some words) cycle =
    IsFirstCycle (needs_graph x.graph (footprints x.setting)) cycle
IsCycleFor x verdict words cycle = Unit {0}

-- The lines are those of these findings and of those that they hide, but for what mending the
-- findings touches, and for lines that would close a cycle with the graph or with one another.
abbrev pub AreLinesFor : Subject → (found hidden : List Finding) → (lines : List ℕ) → Type 0
AreLinesFor x found hidden lines =
    (offers : List Offer) × AreOn x.graph (all_claims x found hidden) offers ×
    (lines ≡ lines_text (fold with_word [] (open_words offers)))

-- The lines are those of the findings, and of the races and stale reads that they hide.
abbrev pub AreOtherLines : Subject → List Finding → (lines : List ℕ) → Type 0
AreOtherLines x found lines =
    (hidden : List Finding) × (list_any is_static found ≡ true → AreHidden x hidden) ×
    AreLinesFor x found hidden lines

-- Why the first of the findings without a word has none; and the lines for others.
pub record IsStuck (x : Subject) (found : List Finding) (o : Obstacle) : Type 0 where
  pub is_why : string_bytes o.why ≡ why_stuck x (first_wordless x found)
  pub is_lines : AreOtherLines x found (string_bytes o.lines)

-- What stops a repair, where a finding of a no gives no word; else nothing is said.
abbrev pub IsObstacleFor : Subject → Verdict → Option (List Word) → Obstacle → Type 0
IsObstacleFor x (No found) None o = IsStuck x found o
IsObstacleFor x verdict words o = Unit {0}

-- The survey of the subject, with the first cycle of what its nodes need, and with what stops a
-- repair.
abbrev pub IsFirst : Subject → First → Type 0
IsFirst x first =
    IsSurvey x first.survey × IsCycleFor x first.survey.verdict first.survey.words first.cycle ×
    IsObstacleFor x first.survey.verdict first.survey.words first.obstacle

-- The answer is the first survey of the subject, without a fault.
abbrev pub GivesFirst : Subject → Result First Fault → Type 0
GivesFirst x answer = (first : First) × IsFirst x first × (answer ≡ Ok first)
