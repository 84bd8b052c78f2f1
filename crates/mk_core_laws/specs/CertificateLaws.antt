-- Laws about the certificates that `check` answers with.
use Rattle.std.specs.Prelude.{◌≡◌, ◌⊎◌, ℕ, List, [], ◌∷◌, ◌++◌, None, Some, Result, Ok}
use Rattle.serde_json.specs.Written.{compact_text}
use Rattle.mk_cert_text.specs.Certificate.{Certificate}
use Rattle.mk_cert_text.specs.Writing.{value_of}
use Rattle.mk_read.specs.Files.{Told, text_at}
use Rattle.mk_core_text.specs.VerdictText.{yes_line}
use Rattle.mk_core_text.specs.declared.fault.Fault.{Fault}
use Rattle.mk_core_text.specs.declared.verdict.Verdict.TheVariants.{Yes}
use Rattle.mk_core.specs.declared.request.Request.{Request}
use Rattle.mk_core.specs.Answer.{Answers}
use Rattle.mk_core.specs.CheckAnswer.{AnswersCheck}
use Rattle.mk_core.specs.Ready.{ready_for}
use Rattle.mk_core.specs.VerifyAnswer.{AnswersVerify}
use Rattle.mk_core_laws.specs.AnswerLaws.{IsSettled}

-- The file with this name has the text of the certificate, with or without a newline behind it.
abbrev pub HasTextOf : Told → List ℕ → Certificate → Type 0
HasTextOf files name certificate =
    (text_at files name ≡ Some (compact_text (value_of certificate))) ⊎
    (text_at files name ≡ Some (compact_text (value_of certificate) ++ 10 ∷ []))

-- This is the answer to the certificate in the file with this name, and the only one, except for
-- out of memory and failed reads.
pub record VerifiesAs (files : Told) (request : Request) (name line : List ℕ) : Type 0 where
  pub is_answer : Answers files request (AnswersVerify files name) (Ok line)
  pub only : (answer : Result (List ℕ) Fault) → IsSettled answer →
      Answers files request (AnswersVerify files name) answer → answer ≡ Ok line

-- If `check` answers yes, `verify` accepts its certificate and answers with the same counts, even
-- if the files have changed, as long as the same request is prepared from them.
abbrev pub CheckedIsVerified : Type 0
CheckedIsVerified =
    (files later : Told) (request : Request) (certificate : Certificate) (recipes reads : ℕ)
    (name : List ℕ) →
    Answers files request AnswersCheck (Ok (Yes certificate recipes reads)) →
    ready_for later None request ≡ ready_for files None request →
    HasTextOf later name certificate → VerifiesAs later request name (yes_line recipes reads)
