-- What must be done before each node, whatever prerequisites a makefile gives it.
use Rattle.std.specs.Prelude.{◌≡◌, ℕ, ◌==◌, not, false, List, [], ◌++◌, filter, ◌⊎◌, if◌then◌else◌}
use Rattle.std.specs.List.{flat_map}
use Rattle.mk_lines.specs.Names.{has_name}
use Rattle.mk_graph.specs.Membership.{Has}
use Rattle.mk_graph.specs.Graph.{Graph, node, prerequisites}
use Rattle.mk_graph.specs.Serial.{serial_order}
use Rattle.mk_build.specs.Setting.{FileName, Setting, name, reads, writes}

-- The recipes that write the file, in the serial order.
abbrev pub writers : Graph → Setting → FileName → List ℕ
writers g s f = filter (λ o. has_name (writes g s o) f) (serial_order g)

-- The other recipes that write what the node's recipe reads.
abbrev pub writers_of_reads : Graph → Setting → ℕ → List ℕ
writers_of_reads g s n = filter (λ o. not (o == n)) (flat_map (writers g s) (reads g s n))

-- The recipes that write the file of a node without a recipe.
abbrev pub writers_of_file : Graph → Setting → ℕ → List ℕ
writers_of_file g s n = if (node g n).recipe then [] else writers g s (name g n)

-- What the node needs beside its direct prerequisites.
abbrev pub more_needs : Graph → Setting → ℕ → List ℕ
more_needs g s n = writers_of_reads g s n ++ writers_of_file g s n

-- The nodes that must be done before the node: its direct prerequisites, the other recipes that
-- write what its recipe reads, and, if it has no recipe, the recipes that write its file.
abbrev pub needs : Graph → Setting → ℕ → List ℕ
needs g s n = prerequisites g n ++ more_needs g s n

-- The node n needs o: o is a direct prerequisite, another recipe that writes what the recipe of n
-- reads, or, if n has no recipe, a recipe that writes the file of n.
abbrev pub IsNeeded : Graph → Setting → (n o : ℕ) → Type 0
IsNeeded g s n o =
    Has (prerequisites g n) o ⊎
    ((f : FileName) × Has (reads g s n) f × Has (writes g s o) f × (¬ (o ≡ n))) ⊎
    (((node g n).recipe ≡ false) × Has (writes g s o) (name g n))
