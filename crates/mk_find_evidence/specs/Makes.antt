-- Makes of all goals, and edits, in a history.
use Rattle.std.specs.Prelude.{◌≡◌, ℕ, List, None}
use Rattle.mk_graph.specs.Membership.{Has}
use Rattle.mk_build.specs.Setting.{FileName}
use Rattle.mk_build.specs.Steps as model
use Rattle.mk_build.specs.SerialMake.{one_make}
use Rattle.mk_build.specs.Stale.{IsEditOf, MakesGoalsBut}
use Rattle.mk_world.specs.State.{setting, disk_of}
use Rattle.mk_find_evidence.specs.Histories.{History, MayGoOn, GoesOn}

-- No make is in progress.
abbrev pub HasNoMake : History → Type 0
HasNoMake h = h.world.make ≡ None

-- A whole make of all goals with one job that takes these steps.
abbrev pub make_with : History → List model.Step → List model.Step
make_with h steps = one_make h.world.scene.graph.goals steps

-- From the disk of the history, the steps make all goals, except that the nodes in `passed` are
-- passed.
abbrev pub MakesGoalsOn : History → (passed : List ℕ) → List model.Step → Type 0
MakesGoalsOn h passed =
    MakesGoalsBut h.world.scene.graph (setting h.world.scene) (Has passed) (disk_of h.world.disk)

-- All such makes are legal from the world of the history.
abbrev pub MayMakeGoals : History → (passed : List ℕ) → Type 0
MayMakeGoals h passed =
    (steps : List model.Step) → MakesGoalsOn h passed steps → MayGoOn h (make_with h steps)

-- The new history has such a make more, and no make is in progress.
pub record GoesOnMakingGoals (old new : History) (passed : List ℕ) : Type 0 where
  pub steps : List model.Step
  pub makes : MakesGoalsOn old passed steps
  pub goes_on : GoesOn old new (make_with old steps)
  pub idle : HasNoMake new

-- `edit` is the edit of the file on the disk of the history if it is editable, else no step.
abbrev pub IsEditOn : History → FileName → List model.Step → Type 0
IsEditOn h f edit = IsEditOf (setting h.world.scene) f (disk_of h.world.disk) edit

-- That edit is legal.
abbrev pub MayEdit : History → FileName → Type 0
MayEdit h f = (edit : List model.Step) → IsEditOn h f edit → MayGoOn h edit

-- The new history has that edit more, and no make is in progress.
pub record GoesOnEditing (old new : History) (f : FileName) : Type 0 where
  pub edit : List model.Step
  pub is : IsEditOn old f edit
  pub goes_on : GoesOn old new edit
  pub idle : HasNoMake new
