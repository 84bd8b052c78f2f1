-- The output of a plan's run.
use Rattle.std.specs.Prelude.{◌≡◌, ℕ, List, [], ◌∷◌, ◌++◌, codes, Option, None, Some}
use Rattle.mk_foot.specs.Setting.{Setting}
use Rattle.mk_graph.specs.Graph.{Graph}
use Rattle.mk_build.specs.World.{World, disk_of}
use Rattle.mk_world.specs.declared.fault.StepFault.{StepFault}
use Rattle.mk_world.specs.declared.plan.PlanLine.{PlanLine}
use Rattle.mk_world.specs.Running.{Stage, RunsTo, files_text, stage_of}
use Rattle.mk_world.specs.State.{State, world_of}
use Rattle.mk_world.specs.Steps.{IsFirstOf}
use Rattle.mk_core_text.specs.FaultText.{step_fault_text, step_fault_words}

-- What the lines of a plan print, the line that was refused, if one was, and the files that were
-- left then.
pub record Simulation : Type 0 where
  pub printed : List ℕ
  pub refused : Option (ℕ × StepFault)
  pub left : List ℕ

-- The text of the files that a refused line leaves; nothing where no line was refused.
abbrev pub left_text : Stage → Option (ℕ × StepFault) → World → List ℕ
left_text stage None left = []
left_text stage (Some stop) left = files_text stage.names (disk_of left)

-- How a run ended: `plan ok`, or the refused line's fault.
abbrev pub end_text : Option (ℕ × StepFault) → List ℕ
end_text None = codes "plan ok\n"
end_text (Some (line, fault)) = step_fault_text line fault ++ 10 ∷ []

-- The same, with the fault in words.
abbrev pub end_words : Option (ℕ × StepFault) → List ℕ
end_words None = codes "plan ok\n"
end_words (Some (line, fault)) = step_fault_words line fault ++ 10 ∷ []

-- The output of a run: what the lines print, how it ended, and the files that a refused line leaves.
abbrev pub run_text : Simulation → List ℕ
run_text run = run.printed ++ end_text run.refused ++ run.left

-- The same, with a fault in words.
abbrev pub run_words : Simulation → List ℕ
run_words run = run.printed ++ end_words run.refused ++ run.left

-- The lines are run one after another in the first world.
pub record ShowsRun (g : Graph) (s : Setting) (lines : List PlanLine) (shown : Simulation) : Type 0
  where
    pub first : State
    pub is_first : IsFirstOf g s first
    pub printed : List ℕ
    pub refused : Option (ℕ × StepFault)
    pub left : World
    pub runs : RunsTo (stage_of first) (world_of first) lines printed refused left
    pub is_printed : shown.printed ≡ printed
    pub is_refused : shown.refused ≡ refused
    pub is_left : shown.left ≡ left_text (stage_of first) refused left
