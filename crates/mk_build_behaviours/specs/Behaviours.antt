-- Behaviours: what a recipe reads depends on what it found before.
use Rattle.std.specs.Prelude.{ℕ, List, [], ◌∷◌, Option}
use Rattle.mk_graph.specs.Graph.{Graph}
use Rattle.mk_build.specs.Setting.{FileName, name}
use Rattle.mk_build.specs.Clean.{Contents}

-- How a recipe behaves: it reads a file and goes on by its content or absence, or it writes these
-- contents into its files, in their order, and ends.
pub data Behaviour : Type 0 where
  Read : (file : FileName) → (Option ℕ → Behaviour) → Behaviour
  Write : (contents : List ℕ) → Behaviour

-- The behaviours of all recipes, each by its target's name.
abbrev pub Behaviours : Type 0
Behaviours = FileName → Behaviour

-- The behaviour of a node's recipe.
abbrev pub behaviour : Graph → Behaviours → ℕ → Behaviour
behaviour g b t = b (name g t)

-- The path of a behaviour: the files that it reads, in order, if files have these contents.
abbrev pub path : Behaviour → Contents → List FileName
path (Read f next) at = f ∷ path (next (at f)) at
path (Write contents) at = []

-- What the recipe writes at the end of its path.
abbrev pub result : Behaviour → Contents → List ℕ
result (Read f next) at = result (next (at f)) at
result (Write contents) at = contents
