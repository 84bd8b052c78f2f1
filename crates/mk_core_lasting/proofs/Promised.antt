-- A yes is a promise across sources.
use Rattle.std.proofs.Common.{◌≡◌, ℕ, List, Option, None, Some, Result, Ok, Err, inl, inr, refl, subst}
use Rattle.std.specs.Prelude.{⊤}
use Rattle.std.specs.Option.{ok_or}
use Rattle.mk_graph.specs.Graph as value
use Rattle.mk_graph.specs.Graph.{IsGraph}
use Rattle.mk_subject.specs.Subject.{Subject, IsSubject}
use Rattle.mk_find.specs.FindingLaws.{NoFindings}
use Rattle.mk_cert.specs.Laws.{CertificateIsAccepted}
use Rattle.mk_cert.specs.Verdict.{Verifies}
use Rattle.mk_cert.specs.declared.fault.CertFault.{CertFault}
use Rattle.mk_infer.specs.Selection.{Selects}
use Rattle.mk_read.specs.Files.{Told, text_at}
use Rattle.mk_cert_text.specs.Certificate.{Certificate}
use Rattle.mk_cert_text.specs.Reading.{certificate_from}
use Rattle.mk_cert_text.specs.declared.fault.CertTextFault.{CertTextFault}
use Rattle.mk_core_text.specs.declared.fault.Fault.{Fault}
use Rattle.mk_core_text.specs.declared.fault.Fault.TheVariants.{NoFile}
use Rattle.mk_core.specs.declared.request.Request.{Request}
use Rattle.mk_core_text.specs.declared.verdict.Verdict.{Verdict}
use Rattle.mk_core_text.specs.declared.verdict.Verdict.TheVariants.{Yes, No}
use Rattle.mk_core.specs.Answer.{Draws}
use Rattle.mk_core.specs.CheckAnswer.{AnswersCheck, IsVerdict, IsYes}
use Rattle.mk_core.specs.Judging.{recorded, subject_over}
use Rattle.mk_core.specs.Ready.{Ready, ready_for}
use Rattle.mk_core.specs.VerifyAnswer.{AnswersVerify, VerifiesCertificate, VerifiesText, accepted}
use Rattle.mk_core_lasting.specs.Lasting.{IsLastingFor, VerifiedLasts, YesLasts, AcceptedLasts}

module _ (lasts : VerifiedLasts) (files : Told) (request : Request) where
  -- a certificate is accepted
  promised : (ready : Ready) → ready_for files None request ≡ Ok ready → (g : value.Graph) → Selects ready.makefile (recorded ready) ready.goals (Ok g) → IsGraph g → IsSubject (subject_over ready g) → (c : Certificate) → Verifies (subject_over ready g) c (Ok tt) → IsLastingFor files request
  promised ready is_ready g s is_graph is_subject c v = record {
    ready = ready;
    graph = g;
    is_ready = is_ready;
    is_selected = s;
    is_lasting = lasts (subject_over ready g) c is_graph is_subject v;
  }

-- a verdict of yes has a certificate that is accepted
has_accepted : CertificateIsAccepted → NoFindings → (x : Subject) → IsGraph x.graph → (verdict : Verdict) → IsVerdict x verdict → IsYes (Ok verdict) → (c : Certificate) × Verifies x c (Ok tt)
has_accepted accepts nothing x is_graph (Yes c recipes reads) (none, is, counted, read) agreed = (c, accepts x c is_graph (nothing x none).0 is)
has_accepted accepts nothing x is_graph (No found) is agreed = absurd agreed

module _ (accepts : CertificateIsAccepted) (nothing : NoFindings) (lasts : VerifiedLasts) (files : Told) (request : Request) where
  of_build : (answer : Result Verdict Fault) → IsYes answer → (ready : Ready) → ready_for files None request ≡ Ok ready → AnswersCheck ready answer → IsLastingFor files request
  of_build answer agreed ready is (Err fault, s, (settled, e)) = absurd (subst IsYes e agreed)
  of_build answer agreed ready is (Ok g, s, inr (fault, first, e)) = absurd (subst IsYes e agreed)
  of_build answer agreed ready is (Ok g, s, inl (is_graph, is_subject, (verdict, v, e))) =
      let found = has_accepted accepts nothing (subject_over ready g) is_graph verdict v (subst IsYes e agreed) in
      promised lasts files request ready is g s is_graph is_subject found.0 found.1

  of_check : (answer : Result Verdict Fault) → IsYes answer → (r : Result Ready Fault) → ready_for files None request ≡ r → Draws AnswersCheck r answer → IsLastingFor files request
  of_check answer agreed (Err fault) is e = absurd (subst IsYes e agreed)
  of_check answer agreed (Ok ready) is d = of_build answer agreed ready is d

pub yes_lasts : CertificateIsAccepted → NoFindings → VerifiedLasts → YesLasts
yes_lasts accepts nothing lasts files request (Ok (Yes c recipes reads)) a agreed = of_check accepts nothing lasts files request (Ok (Yes c recipes reads)) agreed (ready_for files None request) refl a
yes_lasts accepts nothing lasts files request (Ok (No found)) a agreed = absurd agreed
yes_lasts accepts nothing lasts files request (Err fault) a agreed = absurd agreed

module _ (x : Subject) (text : List ℕ) where
  of_verdict : (c : Certificate) (verdict : Result ⊤ CertFault) → Verifies x c verdict → Ok text ≡ accepted x verdict → Verifies x c (Ok tt)
  of_verdict c (Ok done) v e = v
  of_verdict c (Err why) v e = absurd cc

  of_certificate : (r : Result Certificate CertTextFault) → VerifiesCertificate x r (Ok text) → (c : Certificate) × Verifies x c (Ok tt)
  of_certificate (Ok c) (verdict, v, e) = (c, of_verdict c verdict v e)
  of_certificate (Err why) e = absurd cc

  of_text : (name : List ℕ) (found : Option (List ℕ)) → VerifiesText x (ok_or found (NoFile name)) (Ok text) → (c : Certificate) × Verifies x c (Ok tt)
  of_text name None e = absurd cc
  of_text name (Some bytes) v = of_certificate (certificate_from bytes) v

module _ (lasts : VerifiedLasts) (files : Told) (request : Request) (name text : List ℕ) where
  of_verify : (r : Result Ready Fault) → ready_for files None request ≡ r → Draws (AnswersVerify files name) r (Ok text) → IsLastingFor files request
  of_verify (Err fault) is e = absurd cc
  of_verify (Ok ready) is (Err fault, s, (settled, e)) = absurd cc
  of_verify (Ok ready) is (Ok g, s, inr (fault, first, e)) = absurd cc
  of_verify (Ok ready) is (Ok g, s, inl (is_graph, is_subject, v)) =
      let found = of_text (subject_over ready g) text name (text_at files name) v in
      promised lasts files request ready is g s is_graph is_subject found.0 found.1

pub accepted_lasts : VerifiedLasts → AcceptedLasts
accepted_lasts lasts files request name text a = of_verify lasts files request name text (ready_for files None request) refl a
