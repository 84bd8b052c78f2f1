-- Laws about the runs of recipes: what the last runs saw, and which run came before which.
use Rattle.std.specs.Prelude.{◌≡◌, ℕ, ◌<◌, List, Some, true}
use Rattle.mk_graph.specs.Membership.{Has}
use Rattle.mk_graph.specs.Graph.{Graph, node, IsGraph}
use Rattle.mk_build.specs.Setting.{FileName, Setting, reads}
use Rattle.mk_build.specs.World.{Disk, Idle, IsStartDisk}
use Rattle.mk_build.specs.Steps.{Step, Pass, Allowed, IsLegal, after_all, disk_after}
use Rattle.mk_build.specs.Runs.{WholeRun, Runs, runs_of}
use Rattle.mk_build.specs.Ways.{Carries}
use Rattle.mk_build.specs.Coherent.{ContainsOrChanged}
use Rattle.mk_build.specs.Right.{AreSound, HaveNoRace, HaveWays}

-- In each trace from a start disk, if footprints are sound and there is no race, each file that a
-- recipe reads still contains what the recipe's last whole run saw in it, or has changed since.
abbrev pub LastRunsSawWhatIsThere : Type 0
LastRunsSawWhatIsThere =
    (g : Graph) (s : Setting) → IsGraph g → AreSound g s → HaveNoRace g s →
    (d : Disk) (steps : List Step) → IsStartDisk s d → IsLegal g s (Idle d) steps →
    (t : ℕ) (run : WholeRun) → (runs_of g s d steps).last t ≡ Some run →
    (f : FileName) → Has (reads g s t) f →
    ContainsOrChanged g s (disk_after g s d steps) f (run.saw f) run.ended

-- Both recipes have run whole, and the step that ended the last run of the first came before the
-- step that began the last run of the second.
pub record RanBefore (runs : Runs) (o t : ℕ) : Type 0 where
  pub first : WholeRun
  pub second : WholeRun
  pub is_of_first : runs.last o ≡ Some first
  pub is_of_second : runs.last t ≡ Some second
  pub in_order : first.end_step < second.begin_step

-- If footprints are sound, there is no race, each read of a file that can change has a way, and a
-- recipe may be passed, then the last run of each recipe that it carries ended before its own last
-- run began.
abbrev pub CarriedRanBefore : Type 0
CarriedRanBefore =
    (g : Graph) (s : Setting) → IsGraph g → AreSound g s → HaveNoRace g s → HaveWays g s →
    (d : Disk) (steps : List Step) → IsStartDisk s d → IsLegal g s (Idle d) steps →
    (t o : ℕ) → (node g t).recipe ≡ true → Allowed g s (after_all g s (Idle d) steps) (Pass t) →
    Carries g s t o → RanBefore (runs_of g s d steps) o t
