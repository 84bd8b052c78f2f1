-- Laws of coherent disks: makes keep disks coherent, and are right on them.
use Rattle.std.specs.Prelude.{◌≡◌, ℕ, ◌≤◌, List, Some, true}
use Rattle.mk_graph.specs.Membership.{Has}
use Rattle.mk_graph.specs.Graph.{Graph, node, IsGraph}
use Rattle.mk_build.specs.Setting.{FileName, Setting, name, reads, writes}
use Rattle.mk_build.specs.World.{Disk, Idle, IsStartDisk, content, HasStamp, written}
use Rattle.mk_build.specs.Steps.{Step, IsLegal, after_all}
use Rattle.mk_build.specs.Clean.{IsFresh}
use Rattle.mk_build.specs.Right.{AreSound, HaveNoRace, HaveWays, IsRightAt}
use Rattle.mk_build.specs.Coherent.{IsBoundToRun, IsCoherent, HasCoherentDisk}

-- If footprints are sound, a start disk is coherent.
abbrev pub StartIsCoherent : Type 0
StartIsCoherent =
    (g : Graph) (s : Setting) → AreSound g s → (d : Disk) → IsStartDisk s d → IsCoherent g s d

-- If footprints are sound and there is no race, each trace keeps a disk coherent: after each of its
-- steps the disk is coherent while the recipes of its make run. No read needs a way.
abbrev pub CoherenceIsKept : Type 0
CoherenceIsKept =
    (g : Graph) (s : Setting) → IsGraph g → AreSound g s → HaveNoRace g s →
    (d : Disk) (steps : List Step) → IsCoherent g s d → IsLegal g s (Idle d) steps →
    HasCoherentDisk g s (after_all g s (Idle d) steps)

-- If footprints are sound, there is no race, and each read of a file that can change has a way,
-- then each trace from a coherent disk is right, whatever made the disk so.
abbrev pub CoherentIsRight : Type 0
CoherentIsRight =
    (g : Graph) (s : Setting) → IsGraph g → AreSound g s → HaveNoRace g s → HaveWays g s →
    (d : Disk) (steps : List Step) → IsCoherent g s d → IsLegal g s (Idle d) steps →
    IsRightAt g s (after_all g s (Idle d) steps)

-- The recipe's target is there, and so is each file that the recipe reads, none later than the
-- target.
abbrev pub ReadsNothingLater : Graph → Setting → Disk → ℕ → Type 0
ReadsNothingLater g s d t =
    (target : ℕ) × HasStamp d (name g t) target ×
    ((f : FileName) → Has (reads g s t) f → (stamp : ℕ) × HasStamp d f stamp × (stamp ≤ target))

-- On a coherent disk, a recipe that isn't bound to run and reads nothing later than its target is
-- fresh, if footprints are sound.
abbrev pub CoherentIsFresh : Type 0
CoherentIsFresh =
    (g : Graph) (s : Setting) → AreSound g s → (d : Disk) → IsCoherent g s d →
    (t : ℕ) → (node g t).recipe ≡ true → ¬ (IsBoundToRun g s d t) → ReadsNothingLater g s d t →
    IsFresh g s d t

-- If a fresh recipe's output is edited by hand to another content, and the recipe then isn't bound
-- to run and reads nothing later than its target, the disk isn't coherent, if footprints are sound.
abbrev pub HandEditsAreNotCoherent : Type 0
HandEditsAreNotCoherent =
    (g : Graph) (s : Setting) → AreSound g s → (d : Disk) (t : ℕ) (f : FileName) (c : ℕ) →
    IsFresh g s d t → Has (writes g s t) f → ¬ (content d f ≡ Some c) →
    ¬ (IsBoundToRun g s (written d f c) t) → ReadsNothingLater g s (written d f c) t →
    ¬ (IsCoherent g s (written d f c))
