-- How a `Progress` follows the make in progress.
use Rattle.std.specs.Prelude.{◌≡◌, ℕ, true, Option, None, Some, ◌↔◌}
use Rattle.mk_graph.specs.Membership.{Has}
use Rattle.mk_graph.specs.Graph.{node}
use Rattle.mk_graph_ready.specs.Progress.{Progress}
use Rattle.mk_world.specs.State.{Scene, MakeState}

-- The progress has the make's graph, goals and done nodes, and every node that runs or broke off
-- has a recipe.
pub record IsKept (scene : Scene) (m : MakeState) (p : Progress) : Type 0 where
  pub graph : p.graph ≡ scene.graph
  pub goals : (n : ℕ) → Has p.goals n ↔ Has m.goals n
  pub done : (n : ℕ) → Has p.done n ↔ Has m.done n
  pub recipes : (t : ℕ) → Has m.running t → (node scene.graph t).recipe ≡ true
  pub broken : (t : ℕ) → Has m.broken t → (node scene.graph t).recipe ≡ true

-- The progress follows the make in progress; without a make it has the same graph.
abbrev pub IsKeptIn : Scene → Option MakeState → Progress → Type 0
IsKeptIn scene None p = p.graph ≡ scene.graph
IsKeptIn scene (Some m) p = IsKept scene m p
