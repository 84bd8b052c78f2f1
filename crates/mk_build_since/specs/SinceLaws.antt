-- Laws of changes of the makefile.
use Rattle.std.specs.Prelude.{◌≡◌, ℕ, List, true, ◌↔◌, ◌⊎◌}
use Rattle.mk_graph.specs.Membership.{Has}
use Rattle.mk_graph.specs.Graph.{Graph, node, IsGraph}
use Rattle.mk_build.specs.Setting.{FileName, Setting, name, reads}
use Rattle.mk_build.specs.World.{Disk, Idle}
use Rattle.mk_build.specs.Steps.{Step}
use Rattle.mk_build.specs.Ways.{Way}
use Rattle.mk_build.specs.Right.{AreSound}
use Rattle.mk_build_behaviours.specs.BehaviourLaws.{StayPresent}
use Rattle.mk_build_behaviours.specs.CleanBy.{IsRightBy, ArePresent}
use Rattle.mk_build_behaviours.specs.CoherentBy.{IsCoherentBy}
use Rattle.mk_build_behaviours.specs.StepsBy.{IsLegalBy, after_all_by}
use Rattle.mk_build_behaviours.specs.Trusting.{Trust, IsCoherentTrusting}
use Rattle.mk_build_since.specs.Named.{Build, all_rules, IsNamed, IsNamedTrusting}
use Rattle.mk_build_since.specs.Alike.{BehaveAlike}
use Rattle.mk_build_since.specs.Next.{IsAccepted, IsAcceptedTrusting, IsFinished, IsNext, IsNextTrusting}

-- Take two builds whose recipes with the same target and commands behave alike, and a finished make
-- of all goals of the first, which is accepted, with present footprints, from a coherent disk; then
-- any edits, new and deleted sources, and the removal of the named files. If the second build's
-- footprints are sound, the disk is coherent for it.
abbrev pub NextIsCoherent : Type 0
NextIsCoherent =
    (old new : Build) → BehaveAlike old new → IsAccepted old → IsGraph new.graph →
    AreSound new.graph new.setting → (first before now : Disk) →
    IsCoherentBy old.graph old.setting old.behaviours first →
    ArePresent old.graph old.setting old.behaviours first →
    IsFinished old first before → IsNext all_rules old new before now →
    IsCoherentBy new.graph new.setting new.behaviours now

-- If the new build is accepted too, and its footprints are present whenever a make of it begins,
-- then each of its traces from that disk is right, with any edits, makes, stops and recipes that
-- broke off.
abbrev pub NextBuildsAreRight : Type 0
NextBuildsAreRight =
    (old new : Build) → BehaveAlike old new → IsAccepted old → IsAccepted new →
    (first before now : Disk) →
    IsCoherentBy old.graph old.setting old.behaviours first →
    ArePresent old.graph old.setting old.behaviours first →
    IsFinished old first before → IsNext all_rules old new before now → (steps : List Step) →
    IsLegalBy new.graph new.setting new.behaviours (Idle now) steps →
    StayPresent new.graph new.setting new.behaviours (Idle now) steps →
    IsRightBy new.graph new.setting new.behaviours
    (after_all_by new.graph new.setting (Idle now) steps)

-- The same where the old build has races and stale reads: only some of its recipes are trusted, and
-- its disk is coherent as far as they are. What a recipe of the new build writes is removed too if
-- the old one of its target isn't trusted, unless every make makes it.
abbrev pub NextIsCoherentTrusting : Type 0
NextIsCoherentTrusting =
    (old new : Build) (trusted : Trust) → BehaveAlike old new → IsAcceptedTrusting old trusted →
    IsGraph new.graph → AreSound new.graph new.setting → (first before now : Disk) →
    IsCoherentTrusting old.graph old.setting old.behaviours trusted first →
    ArePresent old.graph old.setting old.behaviours first →
    IsFinished old first before → IsNextTrusting trusted old new before now →
    IsCoherentBy new.graph new.setting new.behaviours now

-- If the new build is accepted too, each of its traces from that disk is right if its footprints
-- are present whenever a make of it begins.
abbrev pub NextBuildsAreRightTrusting : Type 0
NextBuildsAreRightTrusting =
    (old new : Build) (trusted : Trust) → BehaveAlike old new → IsAcceptedTrusting old trusted →
    IsAccepted new → (first before now : Disk) →
    IsCoherentTrusting old.graph old.setting old.behaviours trusted first →
    ArePresent old.graph old.setting old.behaviours first →
    IsFinished old first before → IsNextTrusting trusted old new before now →
    (steps : List Step) → IsLegalBy new.graph new.setting new.behaviours (Idle now) steps →
    StayPresent new.graph new.setting new.behaviours (Idle now) steps →
    IsRightBy new.graph new.setting new.behaviours
    (after_all_by new.graph new.setting (Idle now) steps)

-- Of an accepted build all recipes may be trusted, and then just those files are named that the
-- rules name.
abbrev pub TrustNamesNoMore : Type 0
TrustNamesNoMore =
    (old : Build) → IsAccepted old →
    IsAcceptedTrusting old (λ target. true) ×
    ((new : Build) (f : FileName) →
    IsNamedTrusting (λ target. true) old new f ↔ IsNamed all_rules old new f)

-- Each recipe of the first graph has the target of a recipe of the second.
abbrev pub HasItsRecipesIn : Graph → Graph → Type 0
HasItsRecipesIn h g =
    (n : ℕ) → (node h n).recipe ≡ true →
    (k : ℕ) × ((node g k).recipe ≡ true) × (name h n ≡ name g k)

-- If two builds have the same recipes, commands, footprints and given files, so that only
-- prerequisites, phony names and goals differ, and no recipe reads a makefile text, then nothing is
-- named.
abbrev pub PrerequisitesNameNothing : Type 0
PrerequisitesNameNothing =
    (old new : Build) → new.setting ≡ old.setting →
    ((target : FileName) → new.commands target ≡ old.commands target) →
    HasItsRecipesIn old.graph new.graph → HasItsRecipesIn new.graph old.graph →
    ((o : ℕ) (f : FileName) → Has (reads old.graph old.setting o) f →
    ¬ (Has new.setting.texts f)) →
    (f : FileName) → ¬ (IsNamed all_rules old new f)

-- Where footprints are sound, a recipe has a way for a file or has none.
abbrev pub WaysAreDecided : Type 0
WaysAreDecided =
    (g : Graph) (s : Setting) → IsGraph g → AreSound g s → (t : ℕ) (f : FileName) →
    (node g t).recipe ≡ true → Way g s f t ⊎ (¬ (Way g s f t))
