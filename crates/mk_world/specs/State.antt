-- The state of a world as lists, and the world that it represents.
use Rattle.std.specs.Prelude.{◌≡◌, ℕ, List, [], ◌∷◌, map, filter, not, nat_eq, length, replicate, Option, None, Some, option_map, slice_index_or, slice_set, unwrap_or}
use Rattle.mk_lines.specs.Names.{place_from}
use Rattle.mk_foot.specs.Setting as recorded
use Rattle.mk_graph.specs.declared.node.Node.{Node}
use Rattle.mk_graph.specs.Graph.{Graph}
use Rattle.mk_build.specs.Setting as model
use Rattle.mk_build.specs.World.{Outcome, Disk, Making, World, Idle, Busy}
use Rattle.mk_build.specs.World as world
use Rattle.mk_world.specs.declared.file.File.{File}
use Rattle.mk_world.specs.Tables.{look}

-- The graph and the recorded inputs, which no step changes.
pub record Scene : Type 0 where
  pub graph : Graph
  pub recorded : recorded.Setting

-- The build inputs that are recorded: footprints by target name, and the same sources, texts and
-- fixed prefixes.
abbrev pub setting_of : recorded.Setting → model.Setting
setting_of s =
    record {
      reads = λ f. recorded.reads s f;
      writes = λ f. recorded.writes s f;
      sources = s.sources;
      texts = s.texts;
      fixed = s.fixed;
    }

-- The build inputs of a scene.
abbrev pub setting : Scene → model.Setting
setting scene = setting_of scene.recorded

-- The names of the world in the order of their bytes, each with its file, if it exists; the last
-- stamp that was given out; and the known outcomes.
pub record DiskState : Type 0 where
  pub names : List model.FileName
  pub files : List (Option File)
  pub clock : ℕ
  pub known : List Outcome

-- What a recipe has read, for each file that it reads, and written, for each file that it writes.
pub record RunState : Type 0 where
  pub looks : List (Option (Option ℕ))
  pub puts : List (Option ℕ)

-- The make in progress, with a run for each node number.
pub record MakeState : Type 0 where
  pub jobs : ℕ
  pub goals : List ℕ
  pub done : List ℕ
  pub running : List ℕ
  pub broken : List ℕ
  pub runs : List RunState

-- The state of a world: the scene, the disk, and the make in progress, if there is one.
pub record State : Type 0 where
  pub scene : Scene
  pub disk : DiskState
  pub make : Option MakeState

-- The run of a recipe that isn't running.
abbrev pub no_run : RunState
no_run = record { looks = []; puts = [] }

-- The run of a recipe.
abbrev pub run_at : List RunState → ℕ → RunState
run_at runs t = slice_index_or runs t no_run

-- The file of the model that a file of the code represents.
abbrev pub file_of : File → world.File
file_of f = record { content = f.content; stamp = f.stamp }

-- The disk that a state represents.
abbrev pub disk_of : DiskState → Disk
disk_of d =
    record {
      files = λ f. option_map file_of (look d.names d.files f);
      clock = d.clock;
      known = d.known;
    }

-- The make that a state represents.
abbrev pub making_of : Scene → MakeState → Making
making_of scene m =
    record {
      jobs = m.jobs;
      goals = m.goals;
      done = m.done;
      running = m.running;
      broken = m.broken;
      seen = λ t. look (model.reads scene.graph (setting scene) t) (run_at m.runs t).looks;
      put = λ t. look (model.writes scene.graph (setting scene) t) (run_at m.runs t).puts;
    }

-- The world with this make in progress.
abbrev pub busy : Scene → MakeState → DiskState → World
busy scene m d = Busy (making_of scene m) (disk_of d)

-- The world with this make in progress, or with none.
abbrev pub world_in : Scene → DiskState → Option MakeState → World
world_in scene d None = Idle (disk_of d)
world_in scene d (Some m) = busy scene m d

-- The world that a state represents.
abbrev pub world_of : State → World
world_of w = world_in w.scene w.disk w.make

-- The number of the node with this name, or the number of nodes if there is none.
abbrev pub number_of : Graph → model.FileName → ℕ
number_of g f =
    unwrap_or (place_from 0 (map (λ (n : Node). n.name) g.nodes) f) (length g.nodes)

-- A make that has just begun, in a graph with this many nodes.
abbrev pub start_of : (jobs : ℕ) (goals : List ℕ) (nodes : ℕ) → MakeState
start_of jobs goals nodes =
    record {
      jobs = jobs;
      goals = goals;
      done = [];
      running = [];
      broken = [];
      runs = replicate nodes no_run;
    }

-- The make after a recipe began with this run.
abbrev pub begun : MakeState → ℕ → RunState → MakeState
begun m t run = record m { running = t ∷ m.running; runs = slice_set m.runs t run }

-- The make after a node was done.
abbrev pub finished : MakeState → ℕ → MakeState
finished m t =
    record m {
      done = t ∷ m.done;
      running = filter (λ n. not (nat_eq t n)) m.running;
      runs = slice_set m.runs t no_run;
    }

-- The make after a running recipe broke off.
abbrev pub broken_off : MakeState → ℕ → MakeState
broken_off m t =
    record m {
      running = filter (λ n. not (nat_eq t n)) m.running;
      broken = t ∷ m.broken;
      runs = slice_set m.runs t no_run;
    }

-- The make with the run of one recipe replaced.
abbrev pub with_run : MakeState → ℕ → RunState → MakeState
with_run m t run = record m { runs = slice_set m.runs t run }

-- The recipe has read this content of a file, and nothing else changes.
pub record HasLooked (old new : MakeState) (t : ℕ) (names : List model.FileName)
    (f : model.FileName) (c : Option ℕ) : Type 0 where
  pub run : RunState
  pub becomes : new ≡ with_run old t run
  pub many : length run.looks ≡ length (run_at old.runs t).looks
  pub puts : run.puts ≡ (run_at old.runs t).puts
  pub looks : look names run.looks ≡
      world.changed (look names (run_at old.runs t).looks) f (Some c)

-- The recipe has written this content into a file, and nothing else changes.
pub record HasPut (old new : MakeState) (t : ℕ) (names : List model.FileName)
    (f : model.FileName) (c : ℕ) : Type 0 where
  pub run : RunState
  pub becomes : new ≡ with_run old t run
  pub many : length run.puts ≡ length (run_at old.runs t).puts
  pub looks : run.looks ≡ (run_at old.runs t).looks
  pub puts : look names run.puts ≡
      world.changed (look names (run_at old.runs t).puts) f (Some c)
