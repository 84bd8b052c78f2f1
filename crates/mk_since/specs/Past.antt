-- What is kept of an old build.
use Rattle.std.specs.Prelude.{ℕ, List, [], ◌++◌, filter, map, Result, Ok, Err}
use Rattle.mk_graph.specs.Graph.{node}
use Rattle.mk_graph.specs.Serial.{serial_order}
use Rattle.mk_infer.specs.Commands.{Commands}
use Rattle.mk_infer.specs.declared.fault.InferFault.{InferFault}
use Rattle.mk_build.specs.Setting.{FileName}
use Rattle.mk_subject.specs.Subject.{Subject, all_writes, commands_of, name_of, reads_of, writes_of}

-- What is kept of a recipe: its target, its expanded commands, and the files that it reads and
-- writes.
pub record PastRecipe : Type 0 where
  pub target : FileName
  pub commands : List (List ℕ)
  pub reads : List FileName
  pub writes : List FileName

-- What is kept of a build: its recipes, the files that it has itself, and the targets of its doubted
-- recipes.
pub record Past : Type 0 where
  pub recipes : List PastRecipe
  pub own : List FileName
  pub doubted : List FileName

-- The lines of commands that have no fault.
abbrev pub lines_in : Result Commands InferFault → List (List ℕ)
lines_in (Ok c) = c.lines
lines_in (Err fault) = []

-- What is kept of a recipe of the subject.
abbrev pub recipe_of : Subject → ℕ → PastRecipe
recipe_of x n = record {
  target = name_of x n;
  commands = lines_in (commands_of x n);
  reads = reads_of x n;
  writes = writes_of x n;
}

-- What is kept of the subject whose doubted recipes have these targets: its recipes in the serial
-- order; its sources, its makefile texts and what its recipes write; and these targets.
abbrev pub past_of : List FileName → Subject → Past
past_of doubted x = record {
  recipes = map (recipe_of x) (filter (λ n. (node x.graph n).recipe) (serial_order x.graph));
  own = x.setting.sources ++ (x.setting.texts ++ all_writes x);
  doubted = doubted;
}
