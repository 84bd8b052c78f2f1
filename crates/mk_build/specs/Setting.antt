-- The inputs of a build beside its graph: the footprint of each recipe, and which files are given.
use Rattle.std.specs.Prelude.{◌≡◌, ℕ, ◌<◌, List, [], Bool, true, ◌⊎◌, if◌then◌else◌, length, sum_by}
use Rattle.mk_lines.specs.Given as given
use Rattle.mk_graph.specs.Membership.{Has}
use Rattle.mk_graph.specs.Graph.{Graph, node, prerequisites}

-- The name of a file, as its bytes.
abbrev pub FileName : Type 0
FileName = List ℕ

-- The inputs of a build: for each recipe, by its target's name, the files that it reads and writes;
-- the sources; the makefile texts; and the prefixes of fixed files.
pub record Setting : Type 0 where
  pub reads : FileName → List FileName
  pub writes : FileName → List FileName
  pub sources : List FileName
  pub texts : List FileName
  pub fixed : List FileName

-- Whether the file is given: a source, under a fixed prefix, or a makefile text.
abbrev pub is_given : Setting → FileName → Bool
is_given s f = given.is_given s.sources s.fixed s.texts f

-- Whether the file is editable: a source and not a makefile text.
abbrev pub is_editable : Setting → FileName → Bool
is_editable s f = given.is_editable s.sources s.texts f

-- The name of a node.
abbrev pub name : Graph → ℕ → FileName
name g n = (node g n).name

-- The node with this number exists and has this name.
abbrev pub IsNumberOf : Graph → FileName → ℕ → Type 0
IsNumberOf g f n = (n < length g.nodes) × (name g n ≡ f)

-- The files that a node's recipe reads, none if it has no recipe.
abbrev pub reads : Graph → Setting → ℕ → List FileName
reads g s t = if (node g t).recipe then s.reads (name g t) else []

-- The files that a node's recipe writes, none if it has no recipe.
abbrev pub writes : Graph → Setting → ℕ → List FileName
writes g s t = if (node g t).recipe then s.writes (name g t) else []

-- How many writes the recipes of these nodes make in total.
abbrev pub writings : Graph → Setting → List ℕ → ℕ
writings g s ns = sum_by (λ n. length (writes g s n)) ns

-- The file is a direct prerequisite of the node.
abbrev pub HasDirectPrerequisite : Graph → ℕ → FileName → Type 0
HasDirectPrerequisite g t f = (p : ℕ) × Has (prerequisites g t) p × (name g p ≡ f)

-- Every make runs the node: it is phony or has a phony direct prerequisite (IEEE Std 1003.1-2024,
-- XCU make, "Special Targets", `.PHONY`).
abbrev pub IsAlwaysMade : Graph → ℕ → Type 0
IsAlwaysMade g t =
    ((node g t).phony ≡ true) ⊎ ((p : ℕ) × Has (prerequisites g t) p × ((node g p).phony ≡ true))
