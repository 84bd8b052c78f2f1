use Rattle.std.proofs.Common.{ℕ, List, Vec, Result, Ok, Err}
use Rattle.std.specs.Prelude.{OnOk}
use Rattle.std.specs.declared.alloc.Global.{Global}
use Rattle.mk_read.specs.Files.{Told}
use Rattle.mk_core_text.specs.declared.fault.Fault.{Fault}
use Rattle.mk_core.specs.Answer.{Answers, failing_of}
use Rattle.mk_core.specs.FileText.{text_of}
use Rattle.mk_core.specs.Judging.{AnswersJudged}
use Rattle.mk_core.specs.Laws.{AcceptedIsRight}
use Rattle.mk_core.specs.Right.{IsRightFor}
use Rattle.mk_core.specs.Steps.{seen}
use Rattle.mk_core.specs.VerifyAnswer.{AnswersVerify, VerifiesText}
use Rattle.mk_core.specs.declared.request.Request.{Request}
use Rattle.mk_core.proofs.Seen.{seen_answers}
use Rattle.mk_core.proofs.Builds.{seen_verify}
use Rattle.mk_core.proofs.verifying.verify_text.Goals as goal

pub returns-clause-answer : goal.returns-clause-answer
returns-clause-answer g c =
    let request = c.args.request.now in
    let name = c.args.certificate.now in
    λ told fits. seen_answers (λ text. text.items) told request
    (λ ready answer. AnswersJudged (λ x one. VerifiesText x (text_of told (failing_of one) name)
    (seen (λ text. text.items) one)) ready answer) (AnswersVerify told name)
    (λ ready answer h. seen_verify (λ text. text.items) told name ready answer h) c.answer_judged.result
    (c.answer_judged.ensures.answer told fits)

-- what is accepted is right
on_ok : AcceptedIsRight → (told : Told) (request : Request) (name : List ℕ) (answer : Result (Vec ℕ Global) Fault) → Answers told request (AnswersVerify told name) (seen (λ text. text.items) answer)
    → OnOk answer (IsRightFor told request)
on_ok law told request name (Ok text) a = law told request name text.items a
on_ok law told request name (Err fault) a = tt

pub returns-clause-right : goal.returns-clause-right
returns-clause-right g c =
    let request = c.args.request.now in
    let name = c.args.certificate.now in
    λ told fits. on_ok c.accepted_is_right.ensures told request name c.answer_judged.result (returns-clause-answer g c told fits)
