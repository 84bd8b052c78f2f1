-- The answer of the command `check --json`.
use Rattle.std.specs.Prelude.{◌≡◌, ℕ, true, List, Result, Ok}
use Rattle.std.specs.List.{list_any}
use Rattle.mk_subject.specs.Subject.{Subject}
use Rattle.mk_find.specs.declared.finding.Finding.{Finding}
use Rattle.mk_find.specs.Findings.{AreHidden}
use Rattle.mk_claims.specs.Claims.{Claim}
use Rattle.mk_claims.specs.Shown.{AreShown, all_claims, is_static}
use Rattle.mk_core_text.specs.declared.fault.Fault.{Fault}
use Rattle.mk_core_text.specs.declared.verdict.Verdict.{Verdict}
use Rattle.mk_core_text.specs.declared.verdict.Verdict.TheVariants as verdict
use Rattle.mk_core.specs.CheckAnswer.{IsVerdict}
use Rattle.mk_core.specs.Judging.{AnswersJudged}
use Rattle.mk_core.specs.Ready.{Ready}
use Rattle.mk_core_json.specs.declared.checking.InJson.{InJson}
use Rattle.mk_core_json.specs.declared.checking.InJson.TheVariants.{Yes, No}
use Rattle.mk_core_json.specs.AnswerValue.{answer_text, yes_value}
use Rattle.mk_core_json.specs.NoValue.{no_value}

-- It is the text of the value of a no with what these findings claim, and those that they hide.
abbrev pub ShowsClaims : Subject → (found hidden : List Finding) → List ℕ → Type 0
ShowsClaims x found hidden text =
    (shown : List Claim) × AreShown x (all_claims x found hidden) shown ×
    (text ≡ answer_text (no_value x.makefile found shown))

-- It is the text of the value of a no with these findings and, where they hide others, these.
abbrev pub ShowsNo : Subject → List Finding → List ℕ → Type 0
ShowsNo x found text =
    (hidden : List Finding) × (list_any is_static found ≡ true → AreHidden x hidden) ×
    ShowsClaims x found hidden text

-- It is the text of this verdict's value.
abbrev pub Shows : Subject → Verdict → InJson → Type 0
Shows x (verdict.Yes certificate recipes reads) (Yes text) =
    text.items ≡ answer_text (yes_value certificate recipes reads)
Shows x (verdict.No found) (No text) = ShowsNo x found text.items
Shows x verdict shown = ⊥

-- It is the text of the verdict on the subject.
abbrev pub IsInJson : Subject → InJson → Type 0
IsInJson x shown = (verdict : Verdict) × IsVerdict x verdict × Shows x verdict shown

-- The answer is such a verdict, without a fault.
abbrev pub GivesInJson : Subject → Result InJson Fault → Type 0
GivesInJson x answer = (shown : InJson) × IsInJson x shown × (answer ≡ Ok shown)

-- The answer of `check --json` to a prepared request: the verdict on the build of its goals.
abbrev pub AnswersInJson : Ready → Result InJson Fault → Type 0
AnswersInJson ready answer = AnswersJudged GivesInJson ready answer

-- The answer is a verdict of yes.
abbrev pub HasYes : Result InJson Fault → Type 0
HasYes (Ok (Yes text)) = Unit {0}
HasYes answer = ⊥
