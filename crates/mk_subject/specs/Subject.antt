-- What is judged.
use Rattle.std.specs.Prelude.{◌≡◌, ℕ, ◌<◌, List, [], length, map, false, Option, Result, Ok, true}
use Rattle.std.specs.List.{flat_map}
use Rattle.mk_read.specs.Reading.{Makefile}
use Rattle.mk_foot.specs.Book.{Record}
use Rattle.mk_foot.specs.Setting as foot
use Rattle.mk_graph.specs.Graph.{Graph, node}
use Rattle.mk_graph.specs.Serial.{serial_order}
use Rattle.mk_build.specs.Setting as build
use Rattle.mk_infer.specs.Commands.{Commands, commands}
use Rattle.mk_infer.specs.Selection.{Selects}
use Rattle.mk_infer.specs.There.{Exists}
use Rattle.mk_infer.specs.declared.fault.InferFault.{InferFault}

-- The makefile, the files that exist before any recipe runs, the graph of the goals, and the
-- footprints.
pub record Subject : Type 0 where
  pub makefile : Makefile
  pub there : Exists
  pub graph : Graph
  pub setting : foot.Setting

-- The subject with these four parts.
abbrev pub subject_of : Makefile → Exists → Graph → foot.Setting → Subject
subject_of m e g s = record { makefile = m; there = e; graph = g; setting = s }

-- The footprints in the form of mk_build: for each recipe name the files that it reads and writes,
-- with the given files.
abbrev pub footprints : foot.Setting → build.Setting
footprints s = record {
  reads = foot.reads s;
  writes = foot.writes s;
  sources = s.sources;
  texts = s.texts;
  fixed = s.fixed;
}

-- The name of a node.
abbrev pub name_of : Subject → ℕ → List ℕ
name_of x n = build.name x.graph n

-- The files that the recipe of a node reads.
abbrev pub reads_of : Subject → ℕ → List (List ℕ)
reads_of x t = build.reads x.graph (footprints x.setting) t

-- The files that the recipe of a node writes.
abbrev pub writes_of : Subject → ℕ → List (List ℕ)
writes_of x t = build.writes x.graph (footprints x.setting) t

-- The record of a node, if it has one.
abbrev pub record_of : Subject → ℕ → Option Record
record_of x t = foot.record_for x.setting.records (name_of x t)

-- The expanded commands of a node, or their fault.
abbrev pub commands_of : Subject → ℕ → Result Commands InferFault
commands_of x t = commands x.makefile x.there (name_of x t)

-- The graph is the one selected for the goals when exactly the files that the setting lists exist,
-- and the commands of each node have no fault.
pub record IsSubject (x : Subject) : Type 0 where
  pub selected : Selects x.makefile x.there (map (name_of x) x.graph.goals) (Ok x.graph)
  pub no_leaf : x.there.any_leaf ≡ false
  pub nothing_more : x.there.more ≡ []
  pub sources : x.there.sources ≡ x.setting.sources
  pub fixed : x.there.fixed ≡ x.setting.fixed
  pub texts : x.there.texts ≡ x.setting.texts
  pub told : (n : ℕ) → n < length x.graph.nodes → (found : Commands) × (commands_of x n ≡ Ok found)

-- The node has a recipe.
abbrev pub IsRecipe : Subject → ℕ → Type 0
IsRecipe x t = (node x.graph t).recipe ≡ true

-- All files that recipes of the graph write.
abbrev pub all_writes : Subject → List (List ℕ)
all_writes x = flat_map (writes_of x) (serial_order x.graph)
