-- Schedules that are built step by step: the steps, and the world that they lead to.
use Rattle.std.specs.Prelude.{◌≡◌, ℕ, List, ◌++◌, map}
use Rattle.mk_graph.specs.Membership.{Has}
use Rattle.mk_build.specs.Setting.{reads, writes}
use Rattle.mk_build.specs.World as world
use Rattle.mk_build.specs.Steps as model
use Rattle.mk_build.specs.SerialMake.{puts}
use Rattle.mk_build.specs.NodeByNode.{MakesAllBut, to_put}
use Rattle.mk_world.specs.NamedStep.{Step}
use Rattle.mk_world.specs.State.{State, setting, world_of}
use Rattle.mk_world.specs.Steps.{step_of}

-- A world, and the steps that led to it.
pub record History : Type 0 where
  pub world : State
  pub steps : List Step

-- The steps are legal from the world of the history.
abbrev pub MayGoOn : History → List model.Step → Type 0
MayGoOn h steps = model.IsLegal h.world.scene.graph (setting h.world.scene) (world_of h.world) steps

-- The new history has these steps more, and the world that they lead to.
pub record GoesOn (old new : History) (steps : List model.Step) : Type 0 where
  pub scene : new.world.scene ≡ old.world.scene
  pub more : List Step
  pub added : new.steps ≡ old.steps ++ more
  pub are : map (step_of old.world.scene.graph) more ≡ steps
  pub leaves : world_of new.world ≡ model.after_all old.world.scene.graph (setting old.world.scene)
      (world_of old.world) steps

-- The new history has these steps more, and the same world.
pub record Notes (old new : History) (steps : List model.Step) : Type 0 where
  pub world : new.world ≡ old.world
  pub more : List Step
  pub added : new.steps ≡ old.steps ++ more
  pub are : map (step_of old.world.scene.graph) more ≡ steps

-- The contents that recipe t writes when it runs in the world of the history.
abbrev pub puts_in : History → ℕ → List ℕ
puts_in h t =
    to_put h.world.scene.graph (setting h.world.scene) (world.disk_of (world_of h.world)) t

-- The looks of recipe t at all files that it reads, and its writings of these contents to all files
-- that it writes.
abbrev pub looks_and_puts : History → ℕ → List ℕ → List model.Step
looks_and_puts h t cs =
    map (λ f. model.Look t f) (reads h.world.scene.graph (setting h.world.scene) t) ++
    puts t (writes h.world.scene.graph (setting h.world.scene) t) cs

-- From the world of the history, the steps run these nodes one after another, except those in
-- `passed`, which they pass.
abbrev pub MakesOn : History → (passed order : List ℕ) → List model.Step → Type 0
MakesOn h passed order steps =
    MakesAllBut h.world.scene.graph (setting h.world.scene) (Has passed) (world_of h.world) order
    steps

-- All steps that run these nodes from the world of the history are legal.
abbrev pub MayMake : History → (passed order : List ℕ) → Type 0
MayMake h passed order = (steps : List model.Step) → MakesOn h passed order steps → MayGoOn h steps

-- The new history has such steps more, and the world that they lead to.
pub record GoesOnMaking (old new : History) (passed order : List ℕ) : Type 0 where
  pub steps : List model.Step
  pub makes : MakesOn old passed order steps
  pub goes_on : GoesOn old new steps
