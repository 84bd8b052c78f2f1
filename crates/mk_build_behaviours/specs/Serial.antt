-- Disks that makes with one job leave: the last runs of recipes don't overlap.
use Rattle.std.specs.Prelude.{◌≡◌, ℕ, ◌≤◌, List, ◌⊎◌}
use Rattle.mk_graph.specs.Graph.{Graph, IsGraph}
use Rattle.mk_build.specs.Setting.{Setting}
use Rattle.mk_build.specs.World.{Disk, Idle, IsStartDisk}
use Rattle.mk_build.specs.Steps.{Step}
use Rattle.mk_build_behaviours.specs.Behaviours.{Behaviours}
use Rattle.mk_build_behaviours.specs.BehaviourLaws.{AreWritesSound}
use Rattle.mk_build_behaviours.specs.CoherentBy.{IsCoherentBy}
use Rattle.mk_build_behaviours.specs.StepsBy.{IsLegalBy, after_all_by, AreUndisturbed}
use Rattle.mk_build_behaviours.specs.Undisturbed.{HaveOneJob}

-- The disk is coherent, and of two recipes the last run of one ended before that of the other
-- began.
pub record IsSerialBy (g : Graph) (s : Setting) (b : Behaviours) (d : Disk) : Type 0 where
  pub coherent : IsCoherentBy g s b d
  pub apart : (o t : ℕ) → ¬ (o ≡ t) →
      ((coherent.last o).ended ≤ (coherent.last t).began) ⊎
      ((coherent.last t).ended ≤ (coherent.last o).began)

-- If what recipes write is sound, a start disk is so.
abbrev pub StartIsSerialBy : Type 0
StartIsSerialBy =
    (g : Graph) (s : Setting) (b : Behaviours) → AreWritesSound g s → (d : Disk) → IsStartDisk s d →
    IsSerialBy g s b d

-- Makes with one job keep a disk so, if no file that a recipe reads changes before the end of its
-- run. No footprint says what is read, and no read needs a way.
abbrev pub OneJobStaysSerialBy : Type 0
OneJobStaysSerialBy =
    (g : Graph) (s : Setting) (b : Behaviours) → IsGraph g → AreWritesSound g s →
    (d now : Disk) (steps : List Step) → IsSerialBy g s b d → HaveOneJob steps →
    IsLegalBy g s b (Idle d) steps → AreUndisturbed g s b (Idle d) steps →
    after_all_by g s (Idle d) steps ≡ Idle now → IsSerialBy g s b now
