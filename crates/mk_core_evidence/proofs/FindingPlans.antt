-- Plans that show what is found.
use Rattle.std.proofs.Common.{◌≡◌, ℕ, zero, suc, ◌+◌, ◌<◌, ◌≤◌, List, [], ◌∷◌, ◌++◌, length, get_or, inl, inr, refl, sym, ap, subst, ◌∙◌, Option, Some, None, Result, Ok, Err, Vec, arith}
use Rattle.std.specs.Prelude.{IfOk, MatchOption, option_map}
use Rattle.std.specs.declared.alloc.AllocError.{AllocError}
use Rattle.std.specs.declared.alloc.Global.{Global}
use Rattle.std.proofs.lemmas.List.{length-append}
use Rattle.mk_subject.specs.Subject.{Subject}
use Rattle.mk_find.specs.declared.finding.Finding.{Finding}
use Rattle.mk_graph.specs.Membership.{Has}
use Rattle.mk_find.specs.Findings.{AreFindings}
use Rattle.mk_find_evidence.specs.Shown.{IsNotShown}
use Rattle.mk_read.specs.Files.{Told}
use Rattle.mk_core.specs.declared.request.Request.{Request}
use Rattle.mk_core_text.specs.declared.verdict.Verdict.{Verdict}
use Rattle.mk_core_evidence.specs.declared.showing.Evidence.{Evidence}
use Rattle.mk_core_evidence.specs.declared.showing.Evidence.TheVariants.{Plan, NoPlan}
use Rattle.mk_core_text.specs.declared.verdict.Verdict.TheVariants.{Yes, No}
use Rattle.mk_core.specs.Answer.{Answers, Draws}
use Rattle.mk_core.specs.CheckAnswer.{AnswersCheck, IsVerdict}
use Rattle.mk_core_evidence.specs.EvidenceAnswer.{AnswersEvidence, GivesEvidence, GivesPlanOrVerdict, HasVerdict, HasYes, IsEvidence, IsEvidenceText, IsNumbered, IsPlanFor, findings_in, plan_in}
use Rattle.mk_core.specs.Judging.{AnswersJudged}
use Rattle.mk_core.specs.Laws.{YesIsRight}
use Rattle.mk_core.specs.Ready.{Ready, ready_for}
use Rattle.mk_core.specs.Right.{IsRightFor}
use Rattle.mk_core.specs.Steps.{seen}
use Rattle.mk_core_text.specs.declared.fault.Fault.{Fault}
use Rattle.mk_core.proofs.Seen.{judged_along, seen_answers}

-- what has a number stands there
pub numbered_stands : (found : List Finding) (number : ℕ) (finding : Finding) → IsNumbered found number finding → Has found finding
numbered_stands found number finding is = subst (λ (l : List Finding). Has l finding) (sym is.parts) (behind is.before)
  where
    behind : (before : List Finding) → Has (before ++ finding ∷ is.after) finding
    behind [] = inl refl
    behind (f ∷ before) = inr (behind before)

-- it is at the place before its number
pub numbered_at : (found : List Finding) (place : ℕ) (other : Finding) → place < length found → IsNumbered found (place + 1) (get_or found place other)
numbered_at [] place other low = absurd (omega arith)
numbered_at (f ∷ found) zero other low = record { before = []; after = found; parts = refl; place = refl }
numbered_at (f ∷ found) (suc place) other low =
    let rest = numbered_at found place other (omega arith) in
    let more = rest.place in
    record {
      before = f ∷ rest.before;
      after = rest.after;
      parts = ap (λ (l : List Finding). f ∷ l) rest.parts;
      place = omega arith;
    }

-- a number is that of one of them
pub number_low : (found : List Finding) (number : ℕ) (finding : Finding) → IsNumbered found number finding → (0 < number) × (number ≤ length found)
number_low found number finding is =
    let many : length found ≡ length (is.before ++ finding ∷ is.after) = ap length is.parts in
    let more = length-append is.before (finding ∷ is.after) in
    let place = is.place in
    (omega arith, omega arith)

-- the same number is that of the same finding
pub one_numbered : (found : List Finding) (number : ℕ) (one other : Finding) → IsNumbered found number one → IsNumbered found number other → one ≡ other
one_numbered found number one other a b =
    same a.before b.before a.after b.after (sym a.parts ∙ b.parts) (let p = a.place in let q = b.place in omega arith)
  where
    same : (xs ys us vs : List Finding) → xs ++ one ∷ us ≡ ys ++ other ∷ vs → length xs ≡ length ys → one ≡ other
    same [] [] us vs e many = cc
    same [] (y ∷ ys) us vs e many = absurd (omega arith)
    same (x ∷ xs) [] us vs e many = absurd (omega arith)
    same (x ∷ xs) (y ∷ ys) us vs e many =
        let rest : xs ++ one ∷ us ≡ ys ++ other ∷ vs = cc in
        same xs ys us vs rest (omega arith)

-- what is answered of a finding is answered of its number
pub plan_answers : (x : Subject) (number : ℕ) (found : List Finding) → AreFindings x found
    → (finding : Finding) → IsNumbered found number finding
    → (answer : Result (Option (Vec ℕ Global)) AllocError)
    → IfOk answer (λ plan. MatchOption plan (IsNotShown x finding) (λ text. IsPlanFor x finding text.items))
    → IfOk answer (λ plan. IsEvidenceText x number (option_map (λ text. text.items) plan))
plan_answers x number found are finding is (Ok (Some text)) plan = (found, are, finding, is, plan)
plan_answers x number found are finding is (Ok None) none = (found, are, λ other it. subst (λ (k : Finding). IsNotShown x k) (one_numbered found number finding other is it) none)
plan_answers x number found are finding is (Err e) h = tt

-- what is found of a verdict is found of its build
pub found_of : (x : Subject) (verdict : Verdict) → IsVerdict x verdict → AreFindings x (findings_in verdict)
found_of x (Yes certificate recipes reads) is = is.0
found_of x (No found) is = is.1

-- ---- the plan, or the verdict

module _ (told : Told) (request : Request) (number : ℕ) where
  abbrev Given : Ready → Result Evidence Fault → Type 0
  Given ready answer = AnswersJudged (λ x. GivesPlanOrVerdict x number) ready answer

  plan_along : (x : Subject) (answer : Result Evidence Fault) → GivesPlanOrVerdict x number answer → GivesEvidence x number (seen plan_in answer)
  plan_along x answer (Plan plan, is, e) = (Some plan.items, is, ap (seen plan_in) e)
  plan_along x answer (NoPlan verdict, (none, is), e) = (None, none, ap (seen plan_in) e)

  -- the plan that is answered is what a plan is answered
  pub plan_answered : (answer : Result Evidence Fault) → Answers told request Given answer → Answers told request (AnswersEvidence number) (seen plan_in answer)
  plan_answered answer a = seen_answers plan_in told request Given (AnswersEvidence number) (judged_along plan_in (λ x. GivesPlanOrVerdict x number) (λ x. GivesEvidence x number) plan_along) answer a

  module _ (verdict : Verdict) where
    of_evidence : (x : Subject) (evidence : Evidence) → IsEvidence x number evidence → ◌≡◌ {A = Result Evidence Fault} (Ok (NoPlan verdict)) (Ok evidence) → IsVerdict x verdict
    of_evidence x (Plan plan) is e = absurd cc
    of_evidence x (NoPlan other) (none, is) e =
        let same : other ≡ verdict = cc in
        subst (λ (v : Verdict). IsVerdict x v) same is

    of_judged : (ready : Ready) → Given ready (Ok (NoPlan verdict)) → AnswersCheck ready (Ok verdict)
    of_judged ready (Ok g, s, inl (is_graph, is_subject, (evidence, is, e))) = (Ok g, s, inl (is_graph, is_subject, (verdict, of_evidence _ evidence is e, refl)))
    of_judged ready (Ok g, s, inr (fault, first, e)) = absurd cc
    of_judged ready (Err fault, s, (settled, e)) = absurd cc

    of_drawn : (r : Result Ready Fault) → Draws Given r (Ok (NoPlan verdict)) → Draws AnswersCheck r (Ok verdict)
    of_drawn (Ok ready) a = of_judged ready a
    of_drawn (Err fault) e = absurd cc

  -- the verdict that is answered is what a verdict is answered
  pub verdict_answered : (answer : Result Evidence Fault) → Answers told request Given answer → HasVerdict (Answers told request AnswersCheck) answer
  verdict_answered (Ok (NoPlan verdict)) a = of_drawn verdict (ready_for told None request) a
  verdict_answered (Ok (Plan plan)) a = tt
  verdict_answered (Err fault) a = tt

  -- and a yes is right
  pub yes_answered : YesIsRight → (answer : Result Evidence Fault) → Answers told request Given answer → HasYes answer → IsRightFor told request
  yes_answered right (Ok (NoPlan (Yes certificate recipes reads))) a agreed = right told request (Ok (Yes certificate recipes reads)) (verdict_answered (Ok (NoPlan (Yes certificate recipes reads))) a) agreed
  yes_answered right (Ok (NoPlan (No found))) a agreed = absurd agreed
  yes_answered right (Ok (Plan plan)) a agreed = absurd agreed
  yes_answered right (Err fault) a agreed = absurd agreed
