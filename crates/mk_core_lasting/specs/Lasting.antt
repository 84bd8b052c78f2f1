-- What a yes promises across sources: whatever recipes read before, and whatever happened, makes at
-- the present sources are right.
use Rattle.std.specs.Prelude.{◌≡◌, ℕ, List, ◌∷◌, None, Result, Ok}
use Rattle.mk_graph.specs.Graph.{Graph, IsGraph}
use Rattle.mk_build.specs.Setting.{Setting}
use Rattle.mk_build.specs.World.{Disk, Idle, IsStartDisk}
use Rattle.mk_build.specs.Steps.{Step, Make}
use Rattle.mk_build.specs.BuildLaws.{AreInside}
use Rattle.mk_build_behaviours.specs.Behaviours.{Behaviours}
use Rattle.mk_build_behaviours.specs.CleanBy.{IsRightBy, ArePresent}
use Rattle.mk_build_behaviours.specs.StepsBy.{IsLegalBy, after_all_by, AreUndisturbed}
use Rattle.mk_infer.specs.Selection.{Selects}
use Rattle.mk_read.specs.Files.{Told}
use Rattle.mk_subject.specs.Subject.{Subject, IsSubject, footprints}
use Rattle.mk_cert_text.specs.Certificate.{Certificate}
use Rattle.mk_cert.specs.Verdict.{Verifies}
use Rattle.mk_core_text.specs.declared.fault.Fault.{Fault}
use Rattle.mk_core_text.specs.declared.verdict.Verdict.{Verdict}
use Rattle.mk_core.specs.declared.request.Request.{Request}
use Rattle.mk_core.specs.Answer.{Answers}
use Rattle.mk_core.specs.CheckAnswer.{AnswersCheck, IsYes}
use Rattle.mk_core.specs.VerifyAnswer.{AnswersVerify}
use Rattle.mk_core.specs.Judging.{recorded}
use Rattle.mk_core.specs.Ready.{Ready, ready_for}

-- Take recipes that read by what they find, and any trace from a start disk of edits, makes, stops
-- and recipes that break off, in which no file that a recipe reads changes before the end of its
-- run. If the footprints are present on the disk that it leaves, then a make of any part of the
-- goals from there builds them, if it ends, and in that make too no such file changes.
abbrev pub IsLasting : Graph → Setting → Type 0
IsLasting g s =
    (b : Behaviours) (d now : Disk) (past : List Step) → IsStartDisk s d →
    IsLegalBy g s b (Idle d) past → AreUndisturbed g s b (Idle d) past →
    after_all_by g s (Idle d) past ≡ Idle now → ArePresent g s b now →
    (jobs : ℕ) (goals : List ℕ) (steps : List Step) → AreInside steps →
    IsLegalBy g s b (Idle now) (Make jobs goals ∷ steps) →
    IsRightBy g s b (after_all_by g s (Idle now) (Make jobs goals ∷ steps)) ×
    AreUndisturbed g s b (Idle now) (Make jobs goals ∷ steps)

-- The files and the request give a makefile, goals and footprints, and these give a graph, over
-- which makes at sources for which the footprints are present are right, whatever happened before.
pub record IsLastingFor (files : Told) (request : Request) : Type 0 where
  pub ready : Ready
  pub graph : Graph
  pub is_ready : ready_for files None request ≡ Ok ready
  pub is_selected : Selects ready.makefile (recorded ready) ready.goals (Ok graph)
  pub is_lasting : IsLasting graph (footprints ready.setting)

-- An accepted certificate is one of such a build.
abbrev pub VerifiedLasts : Type 0
VerifiedLasts =
    (x : Subject) (c : Certificate) → IsGraph x.graph → IsSubject x → Verifies x c (Ok tt) →
    IsLasting x.graph (footprints x.setting)

-- If `check` answers yes, `IsLastingFor` holds.
abbrev pub YesLasts : Type 0
YesLasts =
    (files : Told) (request : Request) (answer : Result Verdict Fault) →
    Answers files request AnswersCheck answer → IsYes answer → IsLastingFor files request

-- If `verify` accepts a certificate, `IsLastingFor` holds.
abbrev pub AcceptedLasts : Type 0
AcceptedLasts =
    (files : Told) (request : Request) (name text : List ℕ) →
    Answers files request (AnswersVerify files name) (Ok text) → IsLastingFor files request
