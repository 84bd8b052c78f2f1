-- Steps by names, and what requesting a step does.
use Rattle.std.specs.Prelude.{◌≡◌, List, map, None, Result, Ok, Err, OnOk, OnErr, ◌⊎◌}
use Rattle.std.specs.declared.alloc.AllocError.{AllocError}
use Rattle.mk_foot.specs.Setting as recorded
use Rattle.mk_graph.specs.Graph.{Graph}
use Rattle.mk_build.specs.Setting.{Setting}
use Rattle.mk_build.specs.World.{World, IsFirstDisk}
use Rattle.mk_build.specs.Steps as model
use Rattle.mk_world.specs.NamedStep.{Step, Edit, Make, Begin, Look, Put, End, Break, Pass, Stop, EndMake}
use Rattle.mk_world.specs.declared.fault.StepFault.{StepFault}
use Rattle.mk_world.specs.declared.fault.StepFault.TheVariants.{Memory}
use Rattle.mk_world.specs.State.{State, Scene, setting, setting_of, disk_of, world_of, number_of}
use Rattle.mk_world.specs.Faults.{checks, FirstFails}
use Rattle.mk_world.specs.First.{AreNamesOf}

-- The step with numbers for the names of nodes.
abbrev pub step_of : Graph → Step → model.Step
step_of g (Edit f c) = model.Edit f c
step_of g (Make jobs goals) = model.Make jobs (map (number_of g) goals)
step_of g (Begin n) = model.Begin (number_of g n)
step_of g (Look n f) = model.Look (number_of g n) f
step_of g (Put n f c) = model.Put (number_of g n) f c
step_of g (End n) = model.End (number_of g n)
step_of g (Break n removed) = model.Break (number_of g n) removed
step_of g (Pass n) = model.Pass (number_of g n)
step_of g Stop = model.Stop
step_of g EndMake = model.EndMake

-- The step is allowed in the first world and leaves the second.
pub record Takes (g : Graph) (s : Setting) (old new : World) (step : model.Step) : Type 0 where
  pub allowed : model.Allowed g s old step
  pub leaves : new ≡ model.after g s old step

-- The fault is out of memory or that of the first test that fails.
abbrev pub IsFaultOf : Graph → Setting → World → model.Step → StepFault → Type 0
IsFaultOf g s w step fault = (fault ≡ Memory) ⊎ FirstFails (checks g s w step) fault

-- The step is taken, or the result is its fault.
abbrev pub Judges : Scene → (old new : World) → model.Step → Result Unit StepFault → Type 0
Judges scene old new step (Ok done) = Takes scene.graph (setting scene) old new step
Judges scene old new step (Err fault) = IsFaultOf scene.graph (setting scene) old step fault

-- The result of requesting a step: the step is taken or its fault is returned. A refused step
-- changes nothing, and no step changes the graph, the build inputs or the names of the world.
pub record Answers (old new : State) (step : model.Step) (result : Result Unit StepFault) : Type 0
  where
    pub scene : new.scene ≡ old.scene
    pub names : new.disk.names ≡ old.disk.names
    pub judged : Judges old.scene (world_of old) (world_of new) step result
    pub unchanged : OnErr result (new ≡ old)

-- The step is allowed in the world of this state.
abbrev pub MayTake : State → model.Step → Type 0
MayTake w step = model.Allowed w.scene.graph (setting w.scene) (world_of w) step

-- The steps are a trace from the world of this state.
abbrev pub MayTakeAll : State → List model.Step → Type 0
MayTakeAll w steps = model.IsLegal w.scene.graph (setting w.scene) (world_of w) steps

-- The result of taking an allowed step: the world is what the step leaves, or memory runs out and
-- nothing changes. The graph, the build inputs and the names of the world don't change.
pub record TakesAllowed (old new : State) (step : model.Step) (result : Result Unit AllocError) :
    Type 0 where
  pub scene : new.scene ≡ old.scene
  pub names : new.disk.names ≡ old.disk.names
  pub leaves : OnOk result
      (world_of new ≡ model.after old.scene.graph (setting old.scene) (world_of old) step)
  pub unchanged : OnErr result (new ≡ old)

-- The first world of a graph and recorded inputs: no make is in progress, the disk is the first
-- disk, and the names are those of the world in the order of their bytes.
pub record IsFirstOf (g : Graph) (s : recorded.Setting) (w : State) : Type 0 where
  pub scene : w.scene ≡ record { graph = g; recorded = s }
  pub idle : w.make ≡ None
  pub first : IsFirstDisk g (setting_of s) (disk_of w.disk)
  pub names : AreNamesOf w.scene w.disk.names
