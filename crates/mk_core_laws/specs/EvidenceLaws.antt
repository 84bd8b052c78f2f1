-- Laws about plans that show a finding.
use Rattle.std.specs.Prelude.{◌≡◌, ℕ, ◌≤◌, true, false, List, ◌++◌, codes, length, None, Some, Result, Ok}
use Rattle.mk_graph.specs.Graph.{Graph}
use Rattle.mk_build.specs.Setting.{FileName, Setting}
use Rattle.mk_build.specs.World.{Disk, IsFirstDisk, IsOfWorld}
use Rattle.mk_infer.specs.Selection.{Selects}
use Rattle.mk_find.specs.declared.finding.Finding.{Finding}
use Rattle.mk_find.specs.Findings.{AreFindings}
use Rattle.mk_lines.specs.Paths.{is_plain_path}
use Rattle.mk_world_plan.specs.PlanLaws.{EachRunIsAsWritten, HasARun}
use Rattle.mk_world_plan.specs.PlanText.{plan_text}
use Rattle.mk_read.specs.Files.{Told}
use Rattle.mk_find_evidence.specs.Shown.{Shows}
use Rattle.mk_world.specs.declared.plan.PlanLine.{PlanLine}
use Rattle.mk_world.specs.NamedStep.{Step}
use Rattle.mk_world_plan.specs.PlanReading.{lines_of, max_lines, plan_of}
use Rattle.mk_world.specs.Running.{stage_of}
use Rattle.mk_world.specs.State.{State, setting_of, world_of}
use Rattle.mk_world.specs.Steps.{IsFirstOf}
use Rattle.mk_core_text.specs.declared.fault.Fault.{Fault}
use Rattle.mk_core.specs.declared.request.Request.{Request}
use Rattle.mk_core.specs.Answer.{Answers}
use Rattle.mk_core_evidence.specs.EvidenceAnswer.{AnswersEvidence, IsNumbered}
use Rattle.mk_core.specs.FileText.{text_of}
use Rattle.mk_core.specs.Judging.{recorded, subject_over}
use Rattle.mk_core.specs.Ready.{Ready, ready_for}
use Rattle.mk_core.specs.Simulation.{Simulation, run_text}
use Rattle.mk_core.specs.SimulationAnswer.{AnswersSimulation}
use Rattle.mk_core_laws.specs.AnswerLaws.{IsSettled}

-- All names in the world of a request's graph are plain paths.
abbrev pub NamesOfWorldArePlain : Type 0
NamesOfWorldArePlain =
    (files : Told) (request : Request) (ready : Ready) (g : Graph) →
    ready_for files None request ≡ Ok ready →
    Selects ready.makefile (recorded ready) ready.goals (Ok g) →
    (f : FileName) → IsOfWorld g (setting_of ready.setting) f → is_plain_path f ≡ true

-- No line of the plan was refused, and the text ends in `plan ok`.
pub record RunsToItsEnd (shown : Simulation) : Type 0 where
  pub printed : List ℕ
  pub text : run_text shown ≡ printed ++ codes "plan ok\n"
  pub not_refused : shown.refused ≡ None

-- A plan that shows a finding, of at most 65,536 lines, runs to its end: that is the answer to a
-- request for its run, except for out of memory and failed reads, even if the files have changed,
-- as long as the same request is prepared from them.
abbrev pub EvidenceRuns : Type 0
EvidenceRuns =
    (files later : Told) (request : Request) (number : ℕ) (plan name : List ℕ)
    (answer : Result Simulation Fault) →
    Answers files request (AnswersEvidence number) (Ok (Some plan)) →
    length (lines_of plan) ≤ max_lines →
    ready_for later None request ≡ ready_for files None request →
    text_of later None name ≡ Ok plan →
    IsSettled answer → Answers later request (AnswersSimulation later name) answer →
    (shown : Simulation) × (answer ≡ Ok shown) × RunsToItsEnd shown

-- The plan is the text of steps that show the finding with this number, and it can be read; from
-- the first world it has a run to its end, and each of its runs takes the steps that it was written
-- from.
pub record WasWritten (ready : Ready) (number : ℕ) (plan : List ℕ) : Type 0 where
  pub graph : Graph
  pub selected : Selects ready.makefile (recorded ready) ready.goals (Ok graph)
  pub found : List Finding
  pub are_findings : AreFindings (subject_over ready graph) found
  pub finding : Finding
  pub numbered : IsNumbered found number finding
  pub steps : List Step
  pub shows : Shows (subject_over ready graph) finding steps
  pub written : plan ≡ plan_text graph steps
  pub lines : List PlanLine
  pub is_read : plan_of plan ≡ Ok lines
  pub runs : (first : State) → IsFirstOf graph ready.setting first →
      HasARun (stage_of first) (world_of first) lines ×
      EachRunIsAsWritten (stage_of first) (world_of first) steps lines

-- Each plan that shows a finding, of at most 65,536 lines, was written in this way.
abbrev pub EvidenceRunsAsWritten : Type 0
EvidenceRunsAsWritten =
    (files : Told) (request : Request) (ready : Ready) (number : ℕ) (plan : List ℕ) →
    ready_for files None request ≡ Ok ready →
    Answers files request (AnswersEvidence number) (Ok (Some plan)) →
    length (lines_of plan) ≤ max_lines → WasWritten ready number plan

-- A graph and its footprints have a first disk, so what holds for each first disk holds for at
-- least one.
abbrev pub FirstDiskIsThere : Type 0
FirstDiskIsThere = (g : Graph) (s : Setting) → (d : Disk) × IsFirstDisk g s d
