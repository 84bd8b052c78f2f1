-- The answer of the command `verify`.
use Rattle.std.specs.Prelude.{◌≡◌, ⊤, ℕ, List, Result, Ok, Err}
use Rattle.mk_subject.specs.Counts.{count_of_recipes, count_of_reads}
use Rattle.mk_subject.specs.Subject.{Subject}
use Rattle.mk_cert.specs.Verdict.{Verifies}
use Rattle.mk_cert.specs.declared.fault.CertFault.{CertFault}
use Rattle.mk_read.specs.Files.{Told}
use Rattle.mk_cert_text.specs.Certificate.{Certificate}
use Rattle.mk_cert_text.specs.Reading.{certificate_from}
use Rattle.mk_cert_text.specs.declared.fault.CertTextFault.{CertTextFault}
use Rattle.mk_core_text.specs.declared.fault.Fault.{Fault}
use Rattle.mk_core_text.specs.declared.fault.Fault.TheVariants as fault
use Rattle.mk_core.specs.Answer.{failing_of}
use Rattle.mk_core.specs.FileText.{text_of}
use Rattle.mk_core.specs.Judging.{AnswersJudged}
use Rattle.mk_core.specs.Ready.{Ready}
use Rattle.mk_core_text.specs.VerdictText.{yes_line}

-- The text `yes N recipes M reads` if the certificate is accepted; else its fault.
abbrev pub accepted : Subject → Result ⊤ CertFault → Result (List ℕ) Fault
accepted x (Ok done) = Ok (yes_line (count_of_recipes x) (count_of_reads x))
accepted x (Err why) = Err (fault.Verify why)

-- The answer to a certificate, or the fault of its text.
abbrev pub VerifiesCertificate : Subject → Result Certificate CertTextFault →
    Result (List ℕ) Fault → Type 0
VerifiesCertificate x (Ok certificate) answer =
    (verdict : Result ⊤ CertFault) × Verifies x certificate verdict × (answer ≡ accepted x verdict)
VerifiesCertificate x (Err why) answer = answer ≡ Err (fault.Certificate why)

-- The answer to the certificate with this text, or the fault of its file.
abbrev pub VerifiesText : Subject → Result (List ℕ) Fault → Result (List ℕ) Fault → Type 0
VerifiesText x (Ok text) answer = VerifiesCertificate x (certificate_from text) answer
VerifiesText x (Err why) answer = answer ≡ Err why

-- The answer to the certificate with this name, over the build of the goals.
abbrev pub AnswersVerify : Told → List ℕ → Ready → Result (List ℕ) Fault → Type 0
AnswersVerify files name = AnswersJudged (λ x answer.
    VerifiesText x (text_of files (failing_of answer) name) answer)
