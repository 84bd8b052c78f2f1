-- Steps of builds that refer to nodes by name.
use Rattle.std.specs.Prelude.{ℕ, Bool, List, map}
use Rattle.mk_build.specs.Setting.{FileName}
use Rattle.mk_world.specs.declared.step.Step as code
use Rattle.mk_world.specs.declared.step.Step.TheVariants as variant

-- A step of a build, with names for nodes.
pub data Step : Type 0 where
  Edit : (file : FileName) (content : ℕ) → Step
  Make : (jobs : ℕ) (goals : List FileName) → Step
  Begin : (node : FileName) → Step
  Look : (node : FileName) (file : FileName) → Step
  Put : (node : FileName) (file : FileName) (content : ℕ) → Step
  End : (node : FileName) → Step
  Break : (node : FileName) (removed : Bool) → Step
  Pass : (node : FileName) → Step
  Stop : Step
  EndMake : Step

-- The step that a step of the code, which borrows its names, represents.
abbrev pub step_view : code.Step → Step
step_view (variant.Edit f c) = Edit f.now c
step_view (variant.Make jobs goals) = Make jobs (map (λ goal. goal.now) goals.items)
step_view (variant.Begin n) = Begin n.now
step_view (variant.Look n f) = Look n.now f.now
step_view (variant.Put n f c) = Put n.now f.now c
step_view (variant.End n) = End n.now
step_view (variant.Break n removed) = Break n.now removed
step_view (variant.Pass n) = Pass n.now
step_view variant.Stop = Stop
step_view variant.EndMake = EndMake
