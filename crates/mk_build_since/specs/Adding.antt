-- Prerequisites that are added to a makefile by which files were made with one job.
use Rattle.std.specs.Prelude.{◌≡◌, ℕ, List, true}
use Rattle.mk_graph.specs.Membership.{Has}
use Rattle.mk_graph.specs.Graph.{Graph, node, prerequisites, IsGraph}
use Rattle.mk_build.specs.Setting.{FileName, Setting, name}
use Rattle.mk_build.specs.World.{Disk, Idle, IsStartDisk}
use Rattle.mk_build.specs.Steps.{Step}
use Rattle.mk_build.specs.Right.{AreSound, HaveNoRace, HaveWays}
use Rattle.mk_build_behaviours.specs.Behaviours.{Behaviours}
use Rattle.mk_build_behaviours.specs.BehaviourLaws.{AreWritesSound, StayPresent}
use Rattle.mk_build_behaviours.specs.CleanBy.{IsRightBy}
use Rattle.mk_build_behaviours.specs.CoherentBy.{with_reads, IsCoherentBy}
use Rattle.mk_build_behaviours.specs.Serial.{IsSerialBy}
use Rattle.mk_build_behaviours.specs.StepsBy.{IsLegalBy, after_all_by}
use Rattle.mk_build_behaviours.specs.Undisturbed.{HaveOneJob, ReadNoOwn}
use Rattle.mk_build_since.specs.SinceLaws.{HasItsRecipesIn}

-- The second graph has the recipes of the first and no others; each of its nodes is phony if the
-- first graph's node of its name is, and has all prerequisites of that, and maybe more.
pub record AddsPrerequisites (g h : Graph) : Type 0 where
  pub back : HasItsRecipesIn h g
  pub there : HasItsRecipesIn g h
  pub phony : (n k : ℕ) → name g n ≡ name h k → (node g n).phony ≡ true → (node h k).phony ≡ true
  pub edges : (n k p : ℕ) → name g n ≡ name h k → Has (prerequisites g n) p →
      (q : ℕ) × Has (prerequisites h k) q × (name g p ≡ name h q)

-- If no last runs overlap on a disk, it is coherent for a graph with more prerequisites.
abbrev pub AddedPrerequisitesKeepCoherence : Type 0
AddedPrerequisitesKeepCoherence =
    (g h : Graph) (s : Setting) (b : Behaviours) → AddsPrerequisites g h → (d : Disk) →
    IsSerialBy g s b d → IsCoherentBy h s b d

-- After makes with one job no clean build is needed where prerequisites are added. Take any trace
-- of such makes from a start disk, over a graph that may lack prerequisites; no recipe reads what
-- it writes. If a graph with more prerequisites has sound footprints, no race, and a way for each
-- read of a file that can change, and footprints are present whenever a make of it begins, then
-- each of its traces from the disk that is left is right, with any number of jobs.
abbrev pub PrerequisitesMayBeAdded : Type 0
PrerequisitesMayBeAdded =
    (g h : Graph) (s : Setting) (b : Behaviours) → IsGraph g → AreWritesSound g s →
    ReadNoOwn g s b → (start now : Disk) (past : List Step) → IsStartDisk s start →
    HaveOneJob past → IsLegalBy g s b (Idle start) past →
    after_all_by g s (Idle start) past ≡ Idle now → AddsPrerequisites g h → IsGraph h →
    (footprints : FileName → List FileName) → AreSound h (with_reads s footprints) →
    HaveNoRace h (with_reads s footprints) → HaveWays h (with_reads s footprints) →
    (steps : List Step) → IsLegalBy h (with_reads s footprints) b (Idle now) steps →
    StayPresent h (with_reads s footprints) b (Idle now) steps →
    IsRightBy h (with_reads s footprints) b
    (after_all_by h (with_reads s footprints) (Idle now) steps)
