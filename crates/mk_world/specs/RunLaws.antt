-- Laws of sequences of steps, and of runs of plans.
use Rattle.std.specs.Prelude.{◌≡◌, ℕ, List, [], ◌∷◌, ◌++◌, map, Option, None, Result, Ok, Err, ◌⊎◌, ◌↔◌}
use Rattle.mk_graph.specs.Graph.{Graph}
use Rattle.mk_build.specs.NodeByNode.{to_put}
use Rattle.mk_build.specs.SerialMake.{whole_run}
use Rattle.mk_build.specs.Setting.{Setting}
use Rattle.mk_build.specs.World.{World, disk_of}
use Rattle.mk_build.specs.Steps.{IsLegal, after_all}
use Rattle.mk_world.specs.NamedStep.{Step}
use Rattle.mk_world.specs.declared.fault.StepFault.{StepFault}
use Rattle.mk_world.specs.declared.fault.StepFault.TheVariants.{Memory}
use Rattle.mk_world.specs.declared.plan.PlanLine.{PlanLine}
use Rattle.mk_world.specs.State.{State, setting, world_of}
use Rattle.mk_world.specs.Steps.{Answers, step_of}
use Rattle.mk_world.specs.Running.{Stage, RunsTo, contents_of}

-- The steps are requested one after another, all of them or up to the first that is refused.
abbrev pub Asks : (old new : State) → List Step → Result (Unit {0}) StepFault → Type 0
Asks old new [] result = (new ≡ old) × (result ≡ Ok tt)
Asks old new (next ∷ steps) result =
    ((mid : State) × Answers old mid (step_of old.scene.graph next) (Ok tt) ×
    Asks mid new steps result) ⊎
    ((fault : StepFault) × Answers old new (step_of old.scene.graph next) (Err fault) ×
    (result ≡ Err fault))

-- The steps are a trace from this world.
abbrev pub AreLegal : State → List Step → Type 0
AreLegal w steps =
    IsLegal w.scene.graph (setting w.scene) (world_of w) (map (step_of w.scene.graph) steps)

-- Steps that are all taken one after another are a trace, and the trace leaves the resulting world.
abbrev pub TakenStepsAreLegal : Type 0
TakenStepsAreLegal =
    (old new : State) (steps : List Step) → Asks old new steps (Ok tt) →
    AreLegal old steps ×
    (world_of new ≡ after_all old.scene.graph (setting old.scene) (world_of old)
    (map (step_of old.scene.graph) steps))

-- The steps of a trace are all taken, except on out of memory.
abbrev pub LegalStepsAreTaken : Type 0
LegalStepsAreTaken =
    (old new : State) (steps : List Step) (result : Result (Unit {0}) StepFault) →
    Asks old new steps result → AreLegal old steps → (result ≡ Ok tt) ⊎ (result ≡ Err Memory)

-- If the run of the first part of a plan isn't refused, the run of the whole plan is that run
-- followed by the run of the rest: it prints what both print, and continues from the world that the
-- first part leaves.
abbrev pub FrontsRunFirst : Type 0
FrontsRunFirst =
    (stage : Stage) (old mid : World) (front rest : List PlanLine) (text : List ℕ) →
    RunsTo stage old front text None mid →
    (whole : List ℕ) (refused : Option (ℕ × StepFault)) (new : World) →
    RunsTo stage old (front ++ rest) whole refused new ↔
    ((later : List ℕ) × RunsTo stage mid rest later refused new × (whole ≡ text ++ later))

-- A recipe writes the same contents when a plan runs it whole (`contents_of`) and when a schedule
-- that shows a finding does (`to_put`), if the whole run with either is a trace.
abbrev pub WholeRunsAgree : Type 0
WholeRunsAgree =
    (g : Graph) (s : Setting) (w : World) (t : ℕ) →
    IsLegal g s w (whole_run g s t (contents_of g s (disk_of w) t)) ⊎
    IsLegal g s w (whole_run g s t (to_put g s (disk_of w) t)) →
    contents_of g s (disk_of w) t ≡ to_put g s (disk_of w) t
