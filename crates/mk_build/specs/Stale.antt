-- The evidence for a stale read: make all goals, edit the file if it is editable, and make all
-- goals again without the recipe and those that it reaches by carrying.
use Rattle.std.specs.Prelude.{◌≡◌, ℕ, ◌+◌, ◌<◌, List, [], ◌∷◌, ◌++◌, true, false, ◌⊎◌}
use Rattle.mk_graph.specs.Membership.{Has}
use Rattle.mk_graph.specs.Graph.{Graph}
use Rattle.mk_build.specs.Setting.{FileName, Setting, is_editable, writes}
use Rattle.mk_build.specs.World.{Disk, Busy, HasStamp}
use Rattle.mk_build.specs.Steps.{Step, Edit, make_of, disk_after}
use Rattle.mk_graph.specs.Serial.{order_from}
use Rattle.mk_build.specs.SerialMake.{one_make}
use Rattle.mk_build.specs.NodeByNode.{MakesAllBut}
use Rattle.mk_build.specs.Ways.{Carries}

-- A chain of recipes leads from t to this one, and each recipe in it carries the next.
pub data Chain (g : Graph) (s : Setting) (t : ℕ) : ℕ → Type 0 where
  here : Chain g s t t
  further : {o : ℕ} (n : ℕ) → Chain g s t n → Carries g s n o → Chain g s t o

-- The edit of the file: its new content is its stamp. There is no edit if the file isn't editable.
abbrev pub IsEditOf : Setting → FileName → Disk → List Step → Type 0
IsEditOf s f d edit =
    ((is_editable s f ≡ true) × (edit ≡ Edit f (d.clock + 1) ∷ [])) ⊎
    ((is_editable s f ≡ false) × (edit ≡ []))

-- A make of all goals, the edit, and a second make of all goals.
abbrev pub stale_history : Graph → (first edit second : List Step) → List Step
stale_history g first edit second = one_make g.goals first ++ (edit ++ one_make g.goals second)

-- The steps make all goals in serial order from this disk, but pass the nodes in `passed`.
abbrev pub MakesGoalsBut : Graph → Setting → (passed : ℕ → Type 0) → Disk → List Step → Type 0
MakesGoalsBut g s passed d =
    MakesAllBut g s passed (Busy (make_of 1 g.goals) d) (order_from g g.goals)

-- The three parts of the evidence: all is made; the file is edited; and all is made again except
-- the recipe and what it reaches by carrying.
pub record ShowsStale (g : Graph) (s : Setting) (t : ℕ) (f : FileName) (d : Disk)
    (first edit second : List Step) : Type 0 where
  pub makes_all : MakesGoalsBut g s (λ n. ⊥) d first
  pub edits : IsEditOf s f (disk_after g s d (one_make g.goals first)) edit
  pub makes_again : MakesGoalsBut g s (Chain g s t) (disk_after g s d (one_make g.goals first ++
      edit)) second

-- The file and all files that the recipe writes are on the disk, and the file is later than all of
-- them.
abbrev pub IsLaterThanAll : Graph → Setting → Disk → FileName → ℕ → Type 0
IsLaterThanAll g s d f t =
    (late : ℕ) × HasStamp d f late ×
    ((h : FileName) → Has (writes g s t) h → (stamp : ℕ) × HasStamp d h stamp × (stamp < late))
