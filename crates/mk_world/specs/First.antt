-- The first disk of a world, as tables.
use Rattle.std.specs.Prelude.{◌≡◌, ℕ, ◌+◌, List, [], ◌∷◌, Option, Some, None, true, length, filter, if◌then◌else◌, ◌⊎◌, ◌↔◌}
use Rattle.std.specs.List.Sorted.{IsStrictlySortedBy}
use Rattle.std.specs.Ordering.{nat_cmp}
use Rattle.std.specs.Cmp.Lexicographic.{slice_cmp}
use Rattle.mk_foot.specs.Setting as recorded
use Rattle.mk_lines.specs.Names.{has_name}
use Rattle.mk_graph.specs.declared.node.Node.{Node}
use Rattle.mk_graph.specs.Membership.{Has}
use Rattle.mk_build.specs.Setting.{FileName}
use Rattle.mk_build.specs.World.{IsOfWorld}
use Rattle.mk_world.specs.State.{DiskState, Scene, setting}
use Rattle.mk_world.specs.declared.file.File.{File}

-- The given files among these names.
abbrev pub given_among : recorded.Setting → List FileName → List FileName
given_among s names = filter (recorded.is_given s) names

-- The files of these names: given files are numbered from n + 1 on, and their number is their
-- content and stamp; other files are absent.
abbrev pub first_files : recorded.Setting → ℕ → List FileName → List (Option File)
first_files s n [] = []
first_files s n (f ∷ names) =
    if recorded.is_given s f
    then Some (record { content = n + 1; stamp = n + 1 }) ∷ first_files s (n + 1) names
    else (None ∷ first_files s n names)

-- The files that a node's recipe reads, none if it has no recipe.
abbrev pub reads_of : recorded.Setting → Node → List FileName
reads_of s n = if n.recipe then recorded.reads s n.name else []

-- The files that a node's recipe writes, none if it has no recipe.
abbrev pub writes_of : recorded.Setting → Node → List FileName
writes_of s n = if n.recipe then recorded.writes s n.name else []

-- The name is that of the node, or of a file that its recipe reads or writes.
abbrev pub IsNameOf : recorded.Setting → Node → FileName → Type 0
IsNameOf s n f = (n.name ≡ f) ⊎ Has (reads_of s n) f ⊎ Has (writes_of s n) f

-- The first disk of a world with these names.
abbrev pub first_disk : recorded.Setting → List FileName → DiskState
first_disk s names =
    record {
      names = names;
      files = first_files s 0 names;
      clock = length (given_among s names);
      known = [];
    }

-- The names are in ascending order of their bytes, without repeats.
abbrev pub AreSorted : List FileName → Type 0
AreSorted names = IsStrictlySortedBy (slice_cmp nat_cmp) names

-- These are exactly the names of the world, in ascending order of their bytes.
pub record AreNamesOf (scene : Scene) (names : List FileName) : Type 0 where
  pub sorted : AreSorted names
  pub all : (f : FileName) → (has_name names f ≡ true) ↔ IsOfWorld scene.graph (setting scene) f
