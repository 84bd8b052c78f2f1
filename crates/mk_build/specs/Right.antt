-- What an accepted build has, and what makes a build right.
use Rattle.std.specs.Prelude.{◌≡◌, ℕ, ◌<◌, List, length, true, false, ◌⊎◌}
use Rattle.mk_graph.specs.Membership.{Has}
use Rattle.mk_graph.specs.Graph.{Graph, node, prerequisites}
use Rattle.mk_build.specs.Setting.{FileName, Setting, is_given, name, reads, writes}
use Rattle.mk_build.specs.World.{Disk, World, Idle, Busy, IsStartDisk}
use Rattle.mk_graph.specs.Schedules.{Before}
use Rattle.mk_build.specs.Steps.{Step, EndMake, Allowed, IsLegal, after_all}
use Rattle.mk_build.specs.Clean.{IsBuilt}
use Rattle.mk_build.specs.Ways.{Way, CanChange}

-- The footprints are sound: none of the findings on footprints holds, as far as they concern nodes
-- and their files. Not covered here: that each recipe has a record, with the makefile's commands
-- and without `$?` in them; names that aren't nodes; and the choice of inference rules.
pub record AreSound (g : Graph) (s : Setting) : Type 0 where
  -- A recipe that isn't phony writes its target.
  pub target : (t : ℕ) → (node g t).recipe ≡ true → (node g t).phony ≡ false →
      Has (writes g s t) (name g t)
  -- A file has at most one writer.
  pub one_writer : (o t : ℕ) (f : FileName) → Has (writes g s o) f → Has (writes g s t) f → o ≡ t
  -- No given file is written.
  pub not_given : (t : ℕ) (f : FileName) → Has (writes g s t) f → is_given s f ≡ false
  -- No phony node's file is written.
  pub not_phony : (t n : ℕ) → Has (writes g s t) (name g n) → (node g n).phony ≡ false
  -- No recipe reads what it writes.
  pub not_own : (t : ℕ) (f : FileName) → Has (reads g s t) f → ¬ (Has (writes g s t) f)
  -- Each file that is read is given or written.
  pub known : (t : ℕ) (f : FileName) → Has (reads g s t) f → (is_given s f ≡ true) ⊎
      ((o : ℕ) × Has (writes g s o) f)
  -- A recipe that writes the file of a node without a recipe is a direct prerequisite of that node.
  pub not_loose : (n o : ℕ) → n < length g.nodes → (node g n).recipe ≡ false →
      Has (writes g s o) (name g n) → Has (prerequisites g n) o

-- There is no race: a recipe that writes what another recipe reads runs before it.
abbrev pub HaveNoRace : Graph → Setting → Type 0
HaveNoRace g s =
    (t o : ℕ) (f : FileName) → ¬ (o ≡ t) → Has (reads g s t) f → Has (writes g s o) f → Before g o t

-- Each read of a file that can change has a way.
abbrev pub HaveWays : Graph → Setting → Type 0
HaveWays g s = (t : ℕ) (f : FileName) → Has (reads g s t) f → CanChange s f → Way g s f t

-- If the make in progress may end here, its goals are built.
abbrev pub IsRightAt : Graph → Setting → World → Type 0
IsRightAt g s (Idle d) = Unit {0}
IsRightAt g s (Busy m d) = Allowed g s (Busy m d) EndMake → IsBuilt g s d m.goals

-- In each trace from a start disk, whenever a make may end, its goals are built.
abbrev pub IsRight : Graph → Setting → Type 0
IsRight g s =
    (d : Disk) (steps : List Step) → IsStartDisk s d → IsLegal g s (Idle d) steps →
    IsRightAt g s (after_all g s (Idle d) steps)
