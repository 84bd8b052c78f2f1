-- Laws of written plans: they can be read back, and they run.
use Rattle.std.specs.Prelude.{◌≡◌, ℕ, ◌<◌, ◌≤◌, ◌^◌, Bool, true, false, not, List, [], length, map, filter, Option, None, Some, Ok, if◌then◌else◌}
use Rattle.std.specs.List.{filter_map, enumerate_from}
use Rattle.mk_lines.specs.Names.{has_name}
use Rattle.mk_lines.specs.Paths.{is_plain_path}
use Rattle.mk_graph.specs.Membership.{Has}
use Rattle.mk_graph.specs.Graph.{Graph, node, IsGraph}
use Rattle.mk_build.specs.Setting.{FileName, Setting}
use Rattle.mk_build.specs.World.{Disk, World, Idle, IsOfWorld, disk_of}
use Rattle.mk_build.specs.Steps as model
use Rattle.mk_build.specs.Steps.{IsLegal, after_all}
use Rattle.mk_world.specs.NamedStep.{Step, Edit, Make, Begin, Look, Put, End, Break, Pass, Stop, EndMake}
use Rattle.mk_world.specs.declared.plan.PlanCommand.{PlanCommand}
use Rattle.mk_world.specs.declared.plan.PlanCommand.TheVariants as order
use Rattle.mk_world.specs.declared.plan.PlanLine.{PlanLine}
use Rattle.mk_world.specs.declared.fault.StepFault.{StepFault}
use Rattle.mk_world_plan.specs.PlanReading.{lines_of, max_jobs, max_lines, plan_of}
use Rattle.mk_world.specs.State.{State, number_of, world_of}
use Rattle.mk_world.specs.Steps.{IsFirstOf, step_of}
use Rattle.mk_world.specs.Running.{Stage, RunsTo, stage_of}
use Rattle.mk_world.specs.RunLaws.{AreLegal}
use Rattle.mk_world_plan.specs.PlanText.{are_all_named, is_idle, plan_text}
use Rattle.mk_world_plan.specs.Spelling.{IsWellSpelled}

-- The line of the step can be read back: its names are well spelled, its jobs are 1 to 4,096, and
-- its content is below 2^64.
abbrev pub IsReadable : Step → Type 0
IsReadable (Edit f c) = IsWellSpelled f × (c < 2 ^ 64)
IsReadable (Make jobs goals) =
    (1 ≤ jobs) × (jobs ≤ max_jobs) × ((goal : FileName) → Has goals goal → IsWellSpelled goal)
IsReadable (Begin t) = IsWellSpelled t
IsReadable (Look t f) = IsWellSpelled t × IsWellSpelled f
IsReadable (Put t f c) = IsWellSpelled t × IsWellSpelled f × (c < 2 ^ 64)
IsReadable (End t) = IsWellSpelled t
IsReadable (Break t removed) = IsWellSpelled t
IsReadable (Pass t) = IsWellSpelled t
IsReadable Stop = Unit {0}
IsReadable EndMake = Unit {0}

-- The numbers in the step can be read back: at most 4,096 jobs, and a content below 2^64.
abbrev pub HasReadableNumbers : Step → Type 0
HasReadableNumbers (Edit f c) = c < 2 ^ 64
HasReadableNumbers (Make jobs goals) = jobs ≤ max_jobs
HasReadableNumbers (Put t f c) = c < 2 ^ 64
HasReadableNumbers other = Unit {0}

-- The steps of a trace use only names of the world, so their lines can be read back if these names
-- are well spelled and the numbers can be read back.
abbrev pub LegalStepsAreReadable : Type 0
LegalStepsAreReadable =
    (g : Graph) (s : Setting) (d : Disk) (steps : List Step) → IsGraph g →
    ((f : FileName) → IsOfWorld g s f → IsWellSpelled f) →
    IsLegal g s (Idle d) (map (step_of g) steps) →
    (step : Step) → Has steps step → HasReadableNumbers step → IsReadable step

-- The goals that the line of a make names: none if the make has all goals.
abbrev pub named_goals : Graph → List FileName → List FileName
named_goals g goals = if are_all_named g goals then [] else goals

-- The command of a step's line, or nothing for the pass of a node without a recipe, which has no
-- line.
abbrev pub command_of_step : Graph → Step → Option PlanCommand
command_of_step g (Edit f c) = Some (order.Edit f (Some c))
command_of_step g (Make jobs goals) = Some (order.Make jobs (named_goals g goals))
command_of_step g (Begin t) = Some (order.Begin t)
command_of_step g (Look t f) = Some (order.Look t f)
command_of_step g (Put t f c) = Some (order.Put t f (Some c))
command_of_step g (End t) = Some (order.Done t)
command_of_step g (Break t removed) = Some (order.Break t removed)
command_of_step g (Pass t) = if is_idle g t then None else Some (order.Pass t)
command_of_step g Stop = Some order.Stop
command_of_step g EndMake = Some order.End

-- A command as a plan line, with its number.
abbrev pub plan_line : ℕ × PlanCommand → PlanLine
plan_line e = record { number = e.0; order = e.1 }

-- The plan of these steps: their commands, numbered from 1.
abbrev pub plan_of_steps : Graph → List Step → List PlanLine
plan_of_steps g steps = map plan_line (enumerate_from 1 (filter_map (command_of_step g) steps))

-- The text written for steps is read back as the plan of these steps, if each line can be read back
-- and there are at most 65,536 lines.
abbrev pub WrittenTextIsRead : Type 0
WrittenTextIsRead =
    (g : Graph) (steps : List Step) → ((step : Step) → Has steps step → IsReadable step) →
    length (lines_of (plan_text g steps)) ≤ max_lines →
    plan_of (plan_text g steps) ≡ Ok (plan_of_steps g steps)

-- Whether the step is the pass of a node without a recipe.
abbrev pub is_idle_pass : Graph → model.Step → Bool
is_idle_pass g (model.Pass n) = not (node g n).recipe
is_idle_pass g other = false

-- The steps without the passes of nodes without a recipe.
abbrev pub without_idle_passes : Graph → List model.Step → List model.Step
without_idle_passes g steps = filter (λ step. not (is_idle_pass g step)) steps

-- The goals of a make as the run of its line takes them: if they are all goals, in the graph's
-- order.
abbrev pub run_goals : Graph → List FileName → List ℕ
run_goals g goals = if are_all_named g goals then g.goals else map (number_of g) goals

-- The step as the run of its line takes it.
abbrev pub run_step_of : Graph → Step → model.Step
run_step_of g (Make jobs goals) = model.Make jobs (run_goals g goals)
run_step_of g step = step_of g step

-- The run of a plan matches the steps that it was written from: it isn't refused; it leaves the
-- same files, clock and outcomes; and it takes the same steps, except for passes of nodes without a
-- recipe, which the run takes by itself.
pub record RunsAsWritten (g : Graph) (s : Setting) (old : World) (steps : List Step)
    (refused : Option (ℕ × StepFault)) (new : World) : Type 0 where
  pub to_its_end : refused ≡ None
  pub leaves : disk_of new ≡ disk_of (after_all g s old (map (step_of g) steps))
  pub taken : List model.Step
  pub legal : IsLegal g s old taken
  pub takes : new ≡ after_all g s old taken
  pub same : without_idle_passes g taken ≡ without_idle_passes g (map (run_step_of g) steps)

-- The plan has a run that isn't refused.
abbrev pub HasARun : Stage → World → List PlanLine → Type 0
HasARun stage old plan = (text : List ℕ) × (new : World) × RunsTo stage old plan text None new

-- Each run of the plan matches these steps.
abbrev pub EachRunIsAsWritten : Stage → World → List Step → List PlanLine → Type 0
EachRunIsAsWritten stage old steps plan =
    (text : List ℕ) (refused : Option (ℕ × StepFault)) (new : World) →
    RunsTo stage old plan text refused new →
    RunsAsWritten stage.graph stage.setting old steps refused new

-- The steps are a trace that begins without a make in progress, and all names of the world are
-- known.
pub record IsHistory (stage : Stage) (d : Disk) (steps : List Step) : Type 0 where
  pub graph : IsGraph stage.graph
  pub known : (f : FileName) → IsOfWorld stage.graph stage.setting f →
      has_name stage.names f ≡ true
  pub legal : IsLegal stage.graph stage.setting (Idle d) (map (step_of stage.graph) steps)

-- The plan written from such a trace has a run that isn't refused, and each of its runs matches the
-- trace.
abbrev pub WrittenPlanRuns : Type 0
WrittenPlanRuns =
    (stage : Stage) (d : Disk) (steps : List Step) → IsHistory stage d steps →
    HasARun stage (Idle d) (plan_of_steps stage.graph steps) ×
    EachRunIsAsWritten stage (Idle d) steps (plan_of_steps stage.graph steps)

-- The trace can be written as a plan: it is legal, the names of its world are plain paths, its
-- numbers can be read back, and its text has at most 65,536 lines.
pub record CanBeWritten (w : State) (steps : List Step) : Type 0 where
  pub legal : AreLegal w steps
  pub paths : (f : FileName) → has_name w.disk.names f ≡ true → is_plain_path f ≡ true
  pub numbers : (step : Step) → Has steps step → HasReadableNumbers step
  pub few : length (lines_of (plan_text w.scene.graph steps)) ≤ max_lines

-- If a trace from a first world can be written as a plan, its text is read back as a plan that has
-- a run that isn't refused, and each run of the plan matches the trace.
abbrev pub WrittenHistoryRuns : Type 0
WrittenHistoryRuns =
    (w : State) (steps : List Step) → IsFirstOf w.scene.graph w.scene.recorded w →
    IsGraph w.scene.graph → CanBeWritten w steps →
    (plan : List PlanLine) × (plan_of (plan_text w.scene.graph steps) ≡ Ok plan) ×
    HasARun (stage_of w) (world_of w) plan × EachRunIsAsWritten (stage_of w) (world_of w) steps plan
