-- Laws about answers: what a yes promises.
use Rattle.std.specs.Prelude.{List, ℕ, Result, Ok}
use Rattle.mk_read.specs.Files.{Told}
use Rattle.mk_core_text.specs.declared.fault.Fault.{Fault}
use Rattle.mk_core.specs.declared.request.Request.{Request}
use Rattle.mk_core_text.specs.declared.verdict.Verdict.{Verdict}
use Rattle.mk_core.specs.Answer.{Answers}
use Rattle.mk_core.specs.CheckAnswer.{AnswersCheck, IsYes}
use Rattle.mk_core.specs.Right.{IsRightFor}
use Rattle.mk_core.specs.VerifyAnswer.{AnswersVerify}

-- If `check` answers yes, `IsRightFor` holds.
abbrev pub YesIsRight : Type 0
YesIsRight =
    (files : Told) (request : Request) (answer : Result Verdict Fault) →
    Answers files request AnswersCheck answer → IsYes answer → IsRightFor files request

-- If `verify` accepts a certificate, `IsRightFor` holds.
abbrev pub AcceptedIsRight : Type 0
AcceptedIsRight =
    (files : Told) (request : Request) (name text : List ℕ) →
    Answers files request (AnswersVerify files name) (Ok text) → IsRightFor files request
