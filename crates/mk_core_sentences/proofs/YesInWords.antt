-- A yes in words is the yes of `check`.
use Rattle.std.proofs.Common.{◌≡◌, inl, inr, refl, subst, None, Result, Ok, Err}
use Rattle.mk_subject.specs.Subject.{Subject}
use Rattle.mk_read.specs.Files.{Told}
use Rattle.mk_core.specs.declared.request.Request.{Request}
use Rattle.mk_core_text.specs.declared.fault.Fault.{Fault}
use Rattle.mk_core_text.specs.declared.verdict.Verdict.{Verdict}
use Rattle.mk_core_text.specs.declared.verdict.Verdict.TheVariants as verdicts
use Rattle.mk_core.specs.Answer.{Answers, Draws}
use Rattle.mk_core.specs.CheckAnswer.{AnswersCheck, IsVerdict}
use Rattle.mk_core.specs.Laws.{YesIsRight}
use Rattle.mk_core.specs.Ready.{Ready, ready_for}
use Rattle.mk_core.specs.Right.{IsRightFor}
use Rattle.mk_core_sentences.specs.declared.checking.InWords.{InWords}
use Rattle.mk_core_sentences.specs.declared.checking.InWords.TheVariants.{Yes, No}
use Rattle.mk_core_sentences.specs.InWordsAnswer.{AnswersInWords, HasYes, IsInWords}

module _ (told : Told) (request : Request) where
  module _ (verdict : Verdict) where
    of_found : (x : Subject) (found : InWords) → IsInWords x found → ◌≡◌ {A = Result InWords Fault} (Ok (Yes verdict)) (Ok found) → IsVerdict x verdict
    of_found x (Yes (verdicts.Yes certificate recipes reads)) is e =
        let same : verdicts.Yes certificate recipes reads ≡ verdict = cc in
        subst (λ (v : Verdict). IsVerdict x v) same is
    of_found x (Yes (verdicts.No found)) is e = absurd is
    of_found x (No text) is e = absurd cc

    of_judged : (ready : Ready) → AnswersInWords ready (Ok (Yes verdict)) → AnswersCheck ready (Ok verdict)
    of_judged ready (Ok g, s, inl (is_graph, is_subject, (found, is, e))) = (Ok g, s, inl (is_graph, is_subject, (verdict, of_found _ found is e, refl)))
    of_judged ready (Ok g, s, inr (fault, first, e)) = absurd cc
    of_judged ready (Err fault, s, (settled, e)) = absurd cc

    of_drawn : (r : Result Ready Fault) → Draws AnswersInWords r (Ok (Yes verdict)) → Draws AnswersCheck r (Ok verdict)
    of_drawn (Ok ready) a = of_judged ready a
    of_drawn (Err fault) e = absurd cc

  -- a yes is right
  pub yes_answered : YesIsRight → (answer : Result InWords Fault) → Answers told request AnswersInWords answer → HasYes answer → IsRightFor told request
  yes_answered right (Ok (Yes (verdicts.Yes certificate recipes reads))) a agreed =
      let verdict = verdicts.Yes certificate recipes reads in
      right told request (Ok verdict) (of_drawn verdict (ready_for told None request) a) agreed
  yes_answered right (Ok (Yes (verdicts.No found))) a agreed = absurd agreed
  yes_answered right (Ok (No text)) a agreed = absurd agreed
  yes_answered right (Err fault) a agreed = absurd agreed
