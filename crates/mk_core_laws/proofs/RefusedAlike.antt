-- A plan is refused as a verdict is.
use Rattle.std.proofs.Common.{◌≡◌, None, Result, Ok, Err, sym, ap, ◌∙◌}
use Rattle.std.specs.Prelude.{⊤}
use Rattle.mk_subject.specs.Subject.{Subject}
use Rattle.mk_graph.specs.Laws.{SerialReachesEachOnce}
use Rattle.mk_infer.specs.Laws as inferring
use Rattle.mk_core_text.specs.declared.fault.Fault.{Fault}
use Rattle.mk_core_text.specs.declared.fault.Fault.TheVariants as fault
use Rattle.mk_core.specs.CheckAnswer.{AnswersCheck, GivesVerdict}
use Rattle.mk_core.specs.Judging.{AnswersJudged}
use Rattle.mk_core.specs.Ready.{Ready, ready_for}
use Rattle.mk_core.proofs.Seen.{judged_along, seen_answers}
use Rattle.mk_core_evidence.specs.EvidenceAnswer.{AnswersEvidence, GivesEvidence}
use Rattle.mk_core_laws.specs.AnswerLaws.{EvidenceRefusesAsCheck, IsSettled, refusal_of}
use Rattle.mk_core_laws.proofs.OneAnswer.{drawn}
use Rattle.mk_core_laws.proofs.OneVerdict.{drawn_one}

-- something is given
abbrev IsGiven : Subject → Result ⊤ Fault → Type 0
IsGiven x answer = answer ≡ Ok tt

settled_seen : {A : Type 0} (answer : Result A Fault) → IsSettled answer → IsSettled (refusal_of answer)
settled_seen (Ok x) s = tt
settled_seen (Err fault.Memory) s = absurd s
settled_seen (Err (fault.FileReadFailed name)) s = absurd s
settled_seen (Err (fault.NoFile name)) s = tt
settled_seen (Err (fault.Read why)) s = s
settled_seen (Err (fault.Infer why)) s = tt
settled_seen (Err (fault.Foot why)) s = tt
settled_seen (Err (fault.Plan why)) s = tt
settled_seen (Err (fault.Certificate why)) s = tt
settled_seen (Err (fault.Verify why)) s = tt

module _ {A : Type 0} (judges : Subject → Result A Fault → Type 0) (gives : (x : Subject) (answer : Result A Fault) → judges x answer → (given : A) × (answer ≡ Ok given)) where
  given_seen : (ready : Ready) (answer : Result A Fault) → AnswersJudged judges ready answer → AnswersJudged IsGiven ready (refusal_of answer)
  given_seen ready answer j = judged_along (λ given. tt) judges IsGiven (λ x one v. ap refusal_of (gives x one v).1) ready answer j

pub refused_alike : inferring.SelectionIsOne → SerialReachesEachOnce → EvidenceRefusesAsCheck
refused_alike one_selection reaches files request number verdict plan s t a b =
    let first = seen_answers (λ given. tt) files request AnswersCheck (AnswersJudged IsGiven) (given_seen GivesVerdict (λ x answer v. (v.0, v.2))) verdict a in
    let second = seen_answers (λ given. tt) files request (AnswersEvidence number) (AnswersJudged IsGiven) (given_seen (λ x. GivesEvidence x number) (λ x answer v. (v.0, v.2))) plan b in
    drawn_one reaches one_selection IsGiven (refusal_of verdict) (refusal_of plan) (λ x e k. e ∙ sym k) (ready_for files None request)
    (drawn files request (AnswersJudged IsGiven) (refusal_of verdict) (settled_seen verdict s) first) (drawn files request (AnswersJudged IsGiven) (refusal_of plan) (settled_seen plan t) second)
