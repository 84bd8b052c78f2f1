-- The answer of the command `simulate`.
use Rattle.std.specs.Prelude.{◌≡◌, ℕ, List, Result, Ok, Err}
use Rattle.mk_foot.specs.Setting.{Setting}
use Rattle.mk_graph.specs.Graph.{Graph}
use Rattle.mk_read.specs.Files.{Told}
use Rattle.mk_world.specs.declared.plan.PlanFault.{PlanFault}
use Rattle.mk_world.specs.declared.plan.PlanLine.{PlanLine}
use Rattle.mk_world_plan.specs.PlanReading.{plan_of}
use Rattle.mk_core_text.specs.declared.fault.Fault.{Fault}
use Rattle.mk_core_text.specs.declared.fault.Fault.TheVariants.{Plan}
use Rattle.mk_core.specs.Answer.{failing_of}
use Rattle.mk_core.specs.FileText.{text_of}
use Rattle.mk_core.specs.Ready.{Ready}
use Rattle.mk_core.specs.Selected.{AnswersSelected}
use Rattle.mk_core.specs.Simulation.{Simulation, ShowsRun}

-- The output of running the lines of a plan, or the plan's fault.
abbrev pub RunsLines : Graph → Setting → Result (List PlanLine) PlanFault →
    Result Simulation Fault → Type 0
RunsLines g s (Ok lines) answer =
    (shown : Simulation) × ShowsRun g s lines shown × (answer ≡ Ok shown)
RunsLines g s (Err fault) answer = answer ≡ Err (Plan fault)

-- The output of running the plan with this text, or the fault of its file.
abbrev pub RunsText : Graph → Setting → Result (List ℕ) Fault → Result Simulation Fault → Type 0
RunsText g s (Ok text) answer = RunsLines g s (plan_of text) answer
RunsText g s (Err fault) answer = answer ≡ Err fault

-- The output of running the plan with this name over the graph that is selected for the goals.
abbrev pub AnswersSimulation : Told → List ℕ → Ready → Result Simulation Fault → Type 0
AnswersSimulation files plan = AnswersSelected (λ ready g answer.
    RunsText g ready.setting (text_of files (failing_of answer) plan) answer)
