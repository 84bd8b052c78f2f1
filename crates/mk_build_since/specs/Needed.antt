-- That rules are needed: a history that is wrong if one is left out.
use Rattle.std.specs.Prelude.{List, [], ◌∷◌}
use Rattle.mk_graph.specs.Graph.{IsGraph}
use Rattle.mk_build.specs.World.{Disk, Idle}
use Rattle.mk_build.specs.Steps.{Step}
use Rattle.mk_build.specs.Right.{AreSound, HaveWays}
use Rattle.mk_build_behaviours.specs.BehaviourLaws.{StayPresent}
use Rattle.mk_build_behaviours.specs.CleanBy.{IsRightBy, ArePresent}
use Rattle.mk_build_behaviours.specs.CoherentBy.{IsCoherentBy}
use Rattle.mk_build_behaviours.specs.StepsBy.{IsLegalBy, after_all_by}
use Rattle.mk_build_since.specs.Named.{Build, Rule, NewRecipe, OtherCommands, OtherWrites, OtherReads, ReadText, all_rules}
use Rattle.mk_build_since.specs.Alike.{BehaveAlike}
use Rattle.mk_build_since.specs.Next.{IsAccepted, IsFinished, IsNext}

-- These rules fall short for old builds of this kind. After a finished make of such a build from a
-- coherent disk and the removal of the files that the rules name, a make of an accepted build may
-- end without having built its goals, all with present footprints.
pub record FallShort (IsOfKind : Build → Type 0) (rules : List Rule) : Type 0 where
  pub old : Build
  pub new : Build
  pub alike : BehaveAlike old new
  pub old_kind : IsOfKind old
  pub new_accepted : IsAccepted new
  pub first : Disk
  pub before : Disk
  pub now : Disk
  pub coherent : IsCoherentBy old.graph old.setting old.behaviours first
  pub present : ArePresent old.graph old.setting old.behaviours first
  pub finished : IsFinished old first before
  pub next : IsNext rules old new before now
  pub steps : List Step
  pub legal : IsLegalBy new.graph new.setting new.behaviours (Idle now) steps
  pub stay : StayPresent new.graph new.setting new.behaviours (Idle now) steps
  pub wrong : ¬ (IsRightBy new.graph new.setting new.behaviours
      (after_all_by new.graph new.setting (Idle now) steps))

-- Without one of the rules the others fall short for accepted old builds.
abbrev pub RulesAreNeeded : Type 0
RulesAreNeeded =
    FallShort IsAccepted (OtherCommands ∷ OtherWrites ∷ OtherReads ∷ ReadText ∷ []) ×
    FallShort IsAccepted (NewRecipe ∷ OtherWrites ∷ OtherReads ∷ ReadText ∷ []) ×
    FallShort IsAccepted (NewRecipe ∷ OtherCommands ∷ OtherReads ∷ ReadText ∷ []) ×
    FallShort IsAccepted (NewRecipe ∷ OtherCommands ∷ OtherWrites ∷ ReadText ∷ []) ×
    FallShort IsAccepted (NewRecipe ∷ OtherCommands ∷ OtherWrites ∷ OtherReads ∷ [])

-- The build is accepted but for races: its footprints are sound, and each read of a file that can
-- change has a way.
pub record HasOnlyRaces (x : Build) : Type 0 where
  pub graph : IsGraph x.graph
  pub sound : AreSound x.graph x.setting
  pub ways : HaveWays x.graph x.setting

-- All rules fall short for old builds with races, so not each of their recipes can be trusted.
abbrev pub TrustIsNeeded : Type 0
TrustIsNeeded = FallShort HasOnlyRaces all_rules
