-- What may happen between a finished make of an old build and the makes of a new one.
use Rattle.std.specs.Prelude.{◌≡◌, ℕ, ◌≤◌, List, ◌∷◌, true, false, None, ◌⊎◌}
use Rattle.mk_graph.specs.Membership.{Has}
use Rattle.mk_graph.specs.Graph.{IsGraph}
use Rattle.mk_build.specs.Setting.{FileName, is_given, is_editable, writes}
use Rattle.mk_build.specs.World.{Disk, Making, Idle, Busy, content, HasStamp, WasWrittenAfter}
use Rattle.mk_build.specs.Steps.{Step, Make, EndMake, Allowed}
use Rattle.mk_build.specs.BuildLaws.{AreInside}
use Rattle.mk_build.specs.Right.{AreSound, HaveNoRace, HaveWays}
use Rattle.mk_build_behaviours.specs.Behaviours.{behaviour, path}
use Rattle.mk_build_behaviours.specs.StepsBy.{IsLegalBy, after_all_by}
use Rattle.mk_build_behaviours.specs.Trusting.{Trust, MayBeTrusted}
use Rattle.mk_build_since.specs.Alike.{IsSameRecipe}
use Rattle.mk_build_since.specs.Named.{Build, HasFile, OwnsFile, Rule, IsNamed, IsNamedTrusting}

-- The build is accepted: its footprints are sound, there is no race, and each read of a file that
-- can change has a way.
pub record IsAccepted (x : Build) : Type 0 where
  pub graph : IsGraph x.graph
  pub sound : AreSound x.graph x.setting
  pub no_race : HaveNoRace x.graph x.setting
  pub ways : HaveWays x.graph x.setting

-- The build is accepted as far as these recipes are trusted: its footprints are sound, and the
-- recipes may be trusted.
pub record IsAcceptedTrusting (x : Build) (trusted : Trust) : Type 0 where
  pub graph : IsGraph x.graph
  pub sound : AreSound x.graph x.setting
  pub may : MayBeTrusted x.graph x.setting trusted

-- A make of all goals of the build, from the first disk, is finished and leaves the second disk.
pub record IsFinished (x : Build) (first left : Disk) : Type 0 where
  pub jobs : ℕ
  pub steps : List Step
  pub inside : AreInside steps
  pub legal : IsLegalBy x.graph x.setting x.behaviours (Idle first) (Make jobs
      x.graph.goals ∷ steps)
  pub making : Making
  pub leaves : after_all_by x.graph x.setting (Idle first) (Make jobs x.graph.goals ∷ steps) ≡
      Busy making left
  pub ends : Allowed x.graph x.setting (Busy making left) EndMake

-- What may become of a file that isn't named. It is as it was; or it is a source of the new build
-- and was written since; or it is a makefile text of the new build; or it was given and isn't any
-- more, and was deleted or written since.
abbrev pub MayBecome : (old new : Build) → (before now : Disk) → FileName → Type 0
MayBecome old new before now f =
    (now.files f ≡ before.files f) ⊎
    ((is_editable new.setting f ≡ true) × WasWrittenAfter now f before.clock) ⊎
    Has new.setting.texts f ⊎
    ((is_given old.setting f ≡ true) × (is_given new.setting f ≡ false) ×
    ((now.files f ≡ None) ⊎ WasWrittenAfter now f before.clock))

-- The disk after the change: the clock didn't go back and no stamp is later than it; the files that
-- are named are removed; each other file of the old build has become what it may; and what a recipe
-- of the new build writes and the old build doesn't have itself isn't there. A file that the old
-- build doesn't have and that the same recipe would look for in the new build wasn't there, and
-- isn't there now or is a source that was written since.
pub record IsNextBy (named : FileName → Type 0) (old new : Build) (before now : Disk) :
    Type 0 where
  pub came : before.clock ≤ now.clock
  pub stamped : (f : FileName) (stamp : ℕ) → HasStamp now f stamp → stamp ≤ now.clock
  pub removed : (f : FileName) → named f → now.files f ≡ None
  pub others : (f : FileName) → HasFile old f → ¬ (named f) → MayBecome old new before now f
  pub lacking : (t : ℕ) (f : FileName) → Has (writes new.graph new.setting t) f →
      ¬ (OwnsFile old f) → now.files f ≡ None
  pub coming : (o t : ℕ) (f : FileName) → IsSameRecipe old new o t →
      Has (path (behaviour new.graph new.behaviours t) (content before)) f → ¬ (HasFile old f) →
      (before.files f ≡ None) ×
      ((now.files f ≡ None) ⊎
      ((is_editable new.setting f ≡ true) × WasWrittenAfter now f before.clock))

-- The disk after the change, with the files removed that these rules name.
abbrev pub IsNext : List Rule → (old new : Build) → (before now : Disk) → Type 0
IsNext rules old new = IsNextBy (IsNamed rules old new) old new

-- The disk after the change, with the files removed that are named where only these recipes of the
-- old build are trusted.
abbrev pub IsNextTrusting : Trust → (old new : Build) → (before now : Disk) → Type 0
IsNextTrusting trusted old new = IsNextBy (IsNamedTrusting trusted old new) old new
