-- The runs of recipes in a list of steps: when each recipe last began, and its last whole run.
use Rattle.std.specs.Prelude.{ℕ, ◌+◌, List, [], ◌∷◌, Option, Some, None}
use Rattle.std.specs.Option.{option_flatten}
use Rattle.mk_graph.specs.Graph.{Graph}
use Rattle.mk_build.specs.Setting.{FileName, Setting}
use Rattle.mk_build.specs.World.{Disk, Making, World, Idle, Busy}
use Rattle.mk_build.specs.Steps.{Step, Begin, End, after, changed_at}

-- A whole run of a recipe: the clock at its end, the number of steps before its begin and before
-- its end, and what it saw in each file.
pub record WholeRun : Type 0 where
  pub ended : ℕ
  pub begin_step : ℕ
  pub end_step : ℕ
  pub saw : FileName → Option ℕ

-- The number of steps, and for each recipe the clock when it last began, the number of steps before
-- that begin, and its last whole run, if there is one.
pub record Runs : Type 0 where
  pub steps : ℕ
  pub began : ℕ → ℕ
  pub begin_step : ℕ → ℕ
  pub last : ℕ → Option WholeRun

-- There was no step, and no recipe has run.
abbrev pub no_runs : Runs
no_runs = record { steps = 0; began = λ t. 0; begin_step = λ t. 0; last = λ t. None }

-- The run of a recipe that ends now.
abbrev pub run_of : Runs → Making → Disk → ℕ → WholeRun
run_of runs m d t =
    record {
      ended = d.clock;
      begin_step = runs.begin_step t;
      end_step = runs.steps;
      saw = λ f. option_flatten (m.seen t f);
    }

-- The same runs after one step more.
abbrev pub one_later : Runs → Runs
one_later runs =
    record {
      steps = runs.steps + 1;
      began = runs.began;
      begin_step = runs.begin_step;
      last = runs.last;
    }

-- The runs after a step, which is counted. Only a recipe's begin and end change more.
abbrev pub runs_after : World → Step → Runs → Runs
runs_after (Busy m d) (Begin t) runs =
    record (one_later runs) {
      began = changed_at runs.began t d.clock;
      begin_step = changed_at runs.begin_step t runs.steps;
    }
runs_after (Busy m d) (End t) runs =
    record (one_later runs) { last = changed_at runs.last t (Some (run_of runs m d t)) }
runs_after world other runs = one_later runs

-- The runs after these steps.
abbrev pub runs_after_all : Graph → Setting → World → List Step → Runs → Runs
runs_after_all g s world [] runs = runs
runs_after_all g s world (step ∷ steps) runs =
    runs_after_all g s (after g s world step) steps (runs_after world step runs)

-- The runs of these steps, which begin on this disk.
abbrev pub runs_of : Graph → Setting → Disk → List Step → Runs
runs_of g s d steps = runs_after_all g s (Idle d) steps no_runs
