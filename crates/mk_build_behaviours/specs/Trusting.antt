-- Recipes that are trusted though others of the build have races or stale reads.
use Rattle.std.specs.Prelude.{◌≡◌, ℕ, List, ◌∷◌, Bool, true, Some, map, if◌then◌else◌}
use Rattle.mk_graph.specs.Membership.{Has}
use Rattle.mk_graph.specs.Graph.{Graph, IsGraph}
use Rattle.mk_graph.specs.Schedules.{Before}
use Rattle.mk_build.specs.Setting.{FileName, Setting, name, reads, writes}
use Rattle.mk_build.specs.World.{Disk, Idle, Busy, Making, content}
use Rattle.mk_build.specs.Ways.{Way, CanChange}
use Rattle.mk_build.specs.Steps.{Step, Make, EndMake, Allowed}
use Rattle.mk_build.specs.BuildLaws.{AreInside}
use Rattle.mk_build.specs.Clean.{Contents, given_contents, ReachedFrom}
use Rattle.mk_build.specs.Right.{AreSound, HaveNoRace, HaveWays}
use Rattle.mk_build_behaviours.specs.Behaviours.{Behaviours, Write}
use Rattle.mk_build_behaviours.specs.CleanBy.{build_by, ArePresent}
use Rattle.mk_build_behaviours.specs.StepsBy.{IsLegalBy, after_all_by}
use Rattle.mk_build_behaviours.specs.CoherentBy.{IsCoherentBy}
use Rattle.mk_build_behaviours.specs.BehaviourLaws.{StayPresent}

-- Which recipes are trusted, by their targets' names.
abbrev pub Trust : Type 0
Trust = FileName → Bool

-- These recipes may be trusted: what one of them reads only such ones write, each of which runs
-- before it, and each of its reads of a file that can change has a way.
pub record MayBeTrusted (g : Graph) (s : Setting) (trusted : Trust) : Type 0 where
  pub closed : (t o : ℕ) (f : FileName) → trusted (name g t) ≡ true → Has (reads g s t) f →
      Has (writes g s o) f → trusted (name g o) ≡ true
  pub no_race : (t o : ℕ) (f : FileName) → trusted (name g t) ≡ true → ¬ (o ≡ t) →
      Has (reads g s t) f → Has (writes g s o) f → Before g o t
  pub ways : (t : ℕ) (f : FileName) → trusted (name g t) ≡ true → Has (reads g s t) f →
      CanChange s f → Way g s f t

-- The behaviours in which each recipe that isn't trusted writes what is left in its files, whatever
-- it finds.
abbrev pub with_left : Setting → Behaviours → Trust → (FileName → ℕ) → Behaviours
with_left s b trusted left target =
    if trusted target then b target else Write (map left (s.writes target))

-- The disk is coherent as far as these recipes are trusted: it is coherent if each other one writes
-- just what it left.
abbrev pub IsCoherentTrusting : Graph → Setting → Behaviours → Trust → Disk → Type 0
IsCoherentTrusting g s b trusted d =
    (left : FileName → ℕ) × IsCoherentBy g s (with_left s b trusted left) d

-- Each file written by a trusted recipe that these goals reach is on the second disk with the
-- content that the clean build of all goals gives from the given files of the first.
pub record HoldClean (g : Graph) (s : Setting) (b : Behaviours) (trusted : Trust) (first now : Disk)
    (goals : List ℕ) : Type 0 where
  pub clean : Contents
  pub has_value : build_by g s b (given_contents s first) g.goals ≡ Some clean
  pub holds : (t : ℕ) (f : FileName) → ReachedFrom g goals t → trusted (name g t) ≡ true →
      Has (writes g s t) f → (c : ℕ) × (clean f ≡ Some c) × (content now f ≡ Some c)

-- A coherent disk is so as far as any recipes are trusted.
abbrev pub CoherentIsTrusting : Type 0
CoherentIsTrusting =
    (g : Graph) (s : Setting) (b : Behaviours) (trusted : Trust) → IsGraph g → AreSound g s →
    (d : Disk) → IsCoherentBy g s b d → IsCoherentTrusting g s b trusted d

-- Where there is no race and each read of a file that can change has a way, all recipes may be
-- trusted; and only there.
abbrev pub AllMayBeTrusted : Type 0
AllMayBeTrusted =
    (g : Graph) (s : Setting) →
    (HaveNoRace g s → HaveWays g s → MayBeTrusted g s (λ target. true)) ×
    (MayBeTrusted g s (λ target. true) → HaveNoRace g s × HaveWays g s)

-- What trusted recipes write is right, whatever races and stale reads the others have: from a disk
-- that is coherent as far as they are trusted, with present footprints, a make of any part of the
-- goals leaves it as the clean build of all goals does, if it ends.
abbrev pub TrustedFilesAreRight : Type 0
TrustedFilesAreRight =
    (g : Graph) (s : Setting) (b : Behaviours) (trusted : Trust) → IsGraph g → AreSound g s →
    MayBeTrusted g s trusted → (d : Disk) → IsCoherentTrusting g s b trusted d →
    ArePresent g s b d → (jobs : ℕ) (goals : List ℕ) (steps : List Step) → AreInside steps →
    IsLegalBy g s b (Idle d) (Make jobs goals ∷ steps) → (m : Making) (now : Disk) →
    after_all_by g s (Idle d) (Make jobs goals ∷ steps) ≡ Busy m now →
    Allowed g s (Busy m now) EndMake → HoldClean g s b trusted d now m.goals

-- Traces keep a disk coherent as far as these recipes are trusted, with any edits, makes, stops and
-- recipes that broke off, if footprints are present whenever a make begins.
abbrev pub TrustedTracesStayCoherent : Type 0
TrustedTracesStayCoherent =
    (g : Graph) (s : Setting) (b : Behaviours) (trusted : Trust) → IsGraph g → AreSound g s →
    MayBeTrusted g s trusted → (d now : Disk) (steps : List Step) →
    IsCoherentTrusting g s b trusted d → IsLegalBy g s b (Idle d) steps →
    StayPresent g s b (Idle d) steps → after_all_by g s (Idle d) steps ≡ Idle now →
    IsCoherentTrusting g s b trusted now
