-- Invariants of the parts of a world in the code.
use Rattle.std.specs.Prelude.{◌≡◌, ℕ, ◌<◌, List, [], length, true, Option, None, Some, slice_index_or, ◌⊎◌}
use Rattle.mk_graph.specs.Membership.{Has}
use Rattle.mk_graph.specs.Graph.{Graph}
use Rattle.mk_build.specs.Setting.{Setting, reads, writes}
use Rattle.mk_build.specs.World.{Disk, HasStamp}
use Rattle.mk_graph.specs.declared.node.Node.{Node}
use Rattle.mk_world.specs.declared.footprints.Footprint.{Footprint}
use Rattle.mk_build.specs.Steps.{HasSeenAll, seen_by}
use Rattle.mk_world.specs.State.{Scene, MakeState, making_of, setting, run_at}

-- The footprint without files.
abbrev pub no_footprint : Footprint
no_footprint = record { reads = []; writes = [] }

-- The files that the recipe of a node reads and writes.
abbrev pub footprint : Graph → Setting → ℕ → Footprint
footprint g s t = record { reads = reads g s t; writes = writes g s t }

-- The footprints of all nodes, by node number.
pub record AreFootprints (g : Graph) (s : Setting) (all : List Footprint) : Type 0 where
  pub many : length all ≡ length g.nodes
  pub each : (t : ℕ) → slice_index_or all t no_footprint ≡ footprint g s t

-- The make in progress fits the graph: its goals and running recipes are nodes, and the run of each
-- running recipe has a slot for each file that the recipe reads or writes.
pub record Fits (scene : Scene) (m : MakeState) : Type 0 where
  pub goals : (n : ℕ) → Has m.goals n → n < length scene.graph.nodes
  pub many : length m.runs ≡ length scene.graph.nodes
  pub nodes : (t : ℕ) → Has m.running t → t < length scene.graph.nodes
  pub looks : (t : ℕ) → Has m.running t →
      length (run_at m.runs t).looks ≡ length (reads scene.graph (setting scene) t)
  pub puts : (t : ℕ) → Has m.running t →
      length (run_at m.runs t).puts ≡ length (writes scene.graph (setting scene) t)

-- The recipe has read all its files, and this is what it read, in order.
pub record HasSeen (scene : Scene) (m : MakeState) (t : ℕ) (seen : List (Option ℕ)) : Type 0 where
  pub all : HasSeenAll scene.graph (setting scene) (making_of scene m) t
  pub is : seen_by scene.graph (setting scene) (making_of scene m) t ≡ seen

-- The make in progress fits, if there is one.
abbrev pub FitsIn : Scene → Option MakeState → Type 0
FitsIn scene None = Unit {0}
FitsIn scene (Some m) = Fits scene m

-- The direct prerequisite makes a node with this stamp out of date: it is phony, or its file has a
-- greater stamp.
abbrev pub Forces : Node → Disk → (stamp : ℕ) → Type 0
Forces before d stamp =
    (before.phony ≡ true) ⊎ ((later : ℕ) × HasStamp d before.name later × (stamp < later))
