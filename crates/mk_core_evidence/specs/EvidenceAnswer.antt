-- The answer to a request for the plan that shows a finding.
use Rattle.std.specs.Prelude.{◌≡◌, ℕ, ◌+◌, List, [], ◌++◌, ◌∷◌, length, Option, None, Some, Result, Ok}
use Rattle.mk_subject.specs.Subject.{Subject}
use Rattle.mk_find.specs.declared.finding.Finding.{Finding}
use Rattle.mk_find.specs.Findings.{AreFindings}
use Rattle.mk_world_plan.specs.PlanText.{plan_text}
use Rattle.mk_find_evidence.specs.Numbers.{HaveSmallNumbers}
use Rattle.mk_find_evidence.specs.Shown.{IsNotShown, Shows}
use Rattle.mk_world.specs.NamedStep.{Step}
use Rattle.mk_core_text.specs.declared.fault.Fault.{Fault}
use Rattle.mk_core_evidence.specs.declared.showing.Evidence.{Evidence}
use Rattle.mk_core_evidence.specs.declared.showing.Evidence.TheVariants.{Plan, NoPlan}
use Rattle.mk_core_text.specs.declared.verdict.Verdict.{Verdict}
use Rattle.mk_core_text.specs.declared.verdict.Verdict.TheVariants.{Yes, No}
use Rattle.mk_core.specs.CheckAnswer.{IsVerdict}
use Rattle.mk_core.specs.Judging.{AnswersJudged}
use Rattle.mk_core.specs.Ready.{Ready}

-- The finding is the one with this number in the list, counted from 1.
pub record IsNumbered (found : List Finding) (number : ℕ) (finding : Finding) : Type 0 where
  pub before : List Finding
  pub after : List Finding
  pub parts : found ≡ before ++ finding ∷ after
  pub place : number ≡ length before + 1

-- The plan is the text of steps that show the finding, whose numbers are small.
abbrev pub IsPlanFor : Subject → Finding → List ℕ → Type 0
IsPlanFor x finding plan =
    (steps : List Step) × Shows x finding steps × HaveSmallNumbers steps ×
    (plan ≡ plan_text x.graph steps)

-- The plan shows the finding with this number; there is none if there is no such finding or nothing
-- shows it.
abbrev pub IsEvidenceText : Subject → ℕ → Option (List ℕ) → Type 0
IsEvidenceText x number (Some plan) =
    (found : List Finding) × AreFindings x found ×
    (finding : Finding) × IsNumbered found number finding × IsPlanFor x finding plan
IsEvidenceText x number None =
    (found : List Finding) × AreFindings x found ×
    ((finding : Finding) → IsNumbered found number finding → IsNotShown x finding)

-- The answer is that plan, or that there is none, without a fault.
abbrev pub GivesEvidence : Subject → ℕ → Result (Option (List ℕ)) Fault → Type 0
GivesEvidence x number answer =
    (plan : Option (List ℕ)) × IsEvidenceText x number plan × (answer ≡ Ok plan)

-- The answer of `evidence_text` to a prepared request.
abbrev pub AnswersEvidence : (number : ℕ) → Ready → Result (Option (List ℕ)) Fault → Type 0
AnswersEvidence number ready answer =
    AnswersJudged (λ x. GivesEvidence x number) ready answer

-- The findings of a verdict; none for a yes.
abbrev pub findings_in : Verdict → List Finding
findings_in (Yes certificate recipes reads) = []
findings_in (No found) = found

-- The plan of the answer, if it has one.
abbrev pub plan_in : Evidence → Option (List ℕ)
plan_in (Plan plan) = Some plan.items
plan_in (NoPlan verdict) = None

-- It is the plan that shows the finding with this number, or, if there is none, the verdict.
abbrev pub IsEvidence : Subject → ℕ → Evidence → Type 0
IsEvidence x number (Plan plan) = IsEvidenceText x number (Some plan.items)
IsEvidence x number (NoPlan verdict) = IsEvidenceText x number None × IsVerdict x verdict

-- The answer is such a plan or verdict, without a fault.
abbrev pub GivesPlanOrVerdict : Subject → ℕ → Result Evidence Fault → Type 0
GivesPlanOrVerdict x number answer =
    (evidence : Evidence) × IsEvidence x number evidence × (answer ≡ Ok evidence)

-- If the answer has a verdict, then that verdict is one of `answers`.
abbrev pub HasVerdict : (Result Verdict Fault → Type 0) → Result Evidence Fault → Type 0
HasVerdict answers (Ok (NoPlan verdict)) = answers (Ok verdict)
HasVerdict answers other = Unit {0}

-- The answer is a verdict of yes.
abbrev pub HasYes : Result Evidence Fault → Type 0
HasYes (Ok (NoPlan (Yes certificate recipes reads))) = Unit {0}
HasYes answer = ⊥
