-- No command answers a prepared request with a fault of the makefile. These are lemmas that the
-- laws of `Command` and `Judge` cite; a reader of the meaning may skip them.
use Rattle.std.proofs.Common.{◌≡◌, ℕ, Bool, List, Option, None, Some, Result, Ok, Err, inl, inr, sym, subst}
use Rattle.std.specs.Prelude.{⊤}
use Rattle.std.specs.Option.{ok_or}
use Rattle.mk_subject.specs.Subject.{Subject}
use Rattle.mk_cert.specs.declared.fault.CertFault.{CertFault}
use Rattle.mk_graph.specs.Graph.{Graph}
use Rattle.mk_read.specs.declared.fault.ReadFault.{ReadFault}
use Rattle.mk_read.specs.Files.{Told, text_at}
use Rattle.mk_cert_text.specs.Certificate as ways
use Rattle.mk_cert_text.specs.Reading.{certificate_from}
use Rattle.mk_cert_text.specs.declared.fault.CertTextFault.{CertTextFault}
use Rattle.mk_world.specs.declared.plan.PlanFault.{PlanFault}
use Rattle.mk_world.specs.declared.plan.PlanLine.{PlanLine}
use Rattle.mk_world_plan.specs.PlanReading.{plan_of}
use Rattle.mk_core_text.specs.declared.fault.Fault.{Fault}
use Rattle.mk_core_text.specs.declared.fault.Fault.TheVariants.{Read, Infer, Plan, Certificate, NoFile}
use Rattle.mk_core.specs.CheckAnswer.{GivesVerdict}
use Rattle.mk_core.specs.FileText.{text_of}
use Rattle.mk_core.specs.GraphAnswer.{AnswersGraph}
use Rattle.mk_core.specs.Judging.{AnswersJudged, subject_over}
use Rattle.mk_core.specs.Ready.{Ready}
use Rattle.mk_core.specs.SimulationAnswer.{AnswersSimulation, RunsLines, RunsText}
use Rattle.mk_core.specs.VerifyAnswer.{VerifiesCertificate, VerifiesText, accepted}

-- The answer is no fault of a makefile.
abbrev pub IsNotRead : {A : Type 0} → Result A Fault → Type 0
IsNotRead (Err (Read fault)) = ⊥
IsNotRead answer = Unit {0}

-- An answer that is no fault of a makefile differs from each such fault.
pub differs :
    {A : Type 0} (f : ReadFault) (other : Result A Fault) → IsNotRead other →
    ◌≡◌ {A = Result A Fault} (Err (Read f)) other → ⊥
differs f other none e = subst IsNotRead (sym e) none

pub graph_not_read :
    (asked : Bool) (ready : Ready) (f : ReadFault) → AnswersGraph asked ready (Err (Read f)) → ⊥
graph_not_read asked ready f (Ok text, s, e) = differs f (Ok text) tt e
graph_not_read asked ready f (Err fault, s, e) = differs f (Err (Infer fault)) tt e

lines_not_read :
    (g : Graph) (ready : Ready) (f : ReadFault) (r : Result (List PlanLine) PlanFault) →
    RunsLines g ready.setting r (Err (Read f)) → ⊥
lines_not_read g ready f (Ok lines) (shown, run, e) = differs f (Ok shown) tt e
lines_not_read g ready f (Err fault) e = differs f (Err (Plan fault)) tt e

plan_not_read :
    (g : Graph) (ready : Ready) (f : ReadFault) (plan : List ℕ) (text : Option (List ℕ)) →
    RunsText g ready.setting (ok_or text (NoFile plan)) (Err (Read f)) → ⊥
plan_not_read g ready f plan None e = differs f (Err (NoFile plan)) tt e
plan_not_read g ready f plan (Some text) h = lines_not_read g ready f (plan_of text) h

pub simulation_not_read :
    (files : Told) (plan : List ℕ) (ready : Ready) (f : ReadFault) →
    AnswersSimulation files plan ready (Err (Read f)) → ⊥
simulation_not_read files plan ready f (Err fault, s, (settled, e)) =
    differs f (Err (Infer fault)) tt e
simulation_not_read files plan ready f (Ok g, s, runs) =
    plan_not_read g ready f plan (text_at files plan) runs

pub judged_not_read :
    {A : Type 0} (judges : Subject → Result A Fault → Type 0) (ready : Ready) (f : ReadFault) →
    ((x : Subject) → judges x (Err (Read f)) → ⊥) → AnswersJudged judges ready (Err (Read f)) → ⊥
judged_not_read judges ready f none (Ok g, s, inl (is_graph, is_subject, h)) =
    none (subject_over ready g) h
judged_not_read judges ready f none (Ok g, s, inr (fault, first, e)) =
    differs f (Err (Infer fault)) tt e
judged_not_read judges ready f none (Err fault, s, (settled, e)) =
    differs f (Err (Infer fault)) tt e

pub verdict_not_read : (x : Subject) (f : ReadFault) → GivesVerdict x (Err (Read f)) → ⊥
verdict_not_read x f (verdict, is, e) = differs f (Ok verdict) tt e

accepted_not_read :
    (x : Subject) (f : ReadFault) (verdict : Result ⊤ CertFault) →
    Err (Read f) ≡ accepted x verdict → ⊥
accepted_not_read x f (Ok done) e = differs f (accepted x (Ok done)) tt e
accepted_not_read x f (Err why) e = differs f (accepted x (Err why)) tt e

certificate_not_read :
    (x : Subject) (f : ReadFault) (r : Result ways.Certificate CertTextFault) →
    VerifiesCertificate x r (Err (Read f)) → ⊥
certificate_not_read x f (Ok certificate) (verdict, v, e) = accepted_not_read x f verdict e
certificate_not_read x f (Err why) e = differs f (Err (Certificate why)) tt e

text_not_read :
    (x : Subject) (f : ReadFault) (name : List ℕ) (text : Option (List ℕ)) →
    VerifiesText x (ok_or text (NoFile name)) (Err (Read f)) → ⊥
text_not_read x f name None e = differs f (Err (NoFile name)) tt e
text_not_read x f name (Some text) v = certificate_not_read x f (certificate_from text) v

pub verified_not_read :
    (files : Told) (name : List ℕ) (x : Subject) (f : ReadFault) →
    VerifiesText x (text_of files None name) (Err (Read f)) → ⊥
verified_not_read files name x f h = text_not_read x f name (text_at files name) h
