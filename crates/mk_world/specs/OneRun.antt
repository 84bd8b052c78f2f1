-- Uniqueness of the first world, and of the run of a plan.
use Rattle.std.specs.Prelude.{◌≡◌, ℕ, List, Option}
use Rattle.mk_foot.specs.Setting as recorded
use Rattle.mk_graph.specs.Graph.{Graph}
use Rattle.mk_build.specs.World.{World}
use Rattle.mk_world.specs.declared.fault.StepFault.{StepFault}
use Rattle.mk_world.specs.declared.plan.PlanLine.{PlanLine}
use Rattle.mk_world.specs.State.{State, world_of}
use Rattle.mk_world.specs.Steps.{IsFirstOf}
use Rattle.mk_world.specs.Running.{Stage, RunsTo, stage_of}

-- A graph and recorded inputs have only one first world.
abbrev pub FirstWorldIsOne : Type 0
FirstWorldIsOne =
    (g : Graph) (s : recorded.Setting) (one other : State) → IsFirstOf g s one →
    IsFirstOf g s other → (stage_of one ≡ stage_of other) × (world_of one ≡ world_of other)

-- The lines of a plan have only one run from a world: what it prints, how it ends, and which world
-- it leaves are determined.
abbrev pub RunIsOne : Type 0
RunIsOne =
    (stage : Stage) (old : World) (lines : List PlanLine)
    (text also : List ℕ) (refused again : Option (ℕ × StepFault)) (new other : World) →
    RunsTo stage old lines text refused new → RunsTo stage old lines also again other →
    (text ≡ also) × (refused ≡ again) × (new ≡ other)
