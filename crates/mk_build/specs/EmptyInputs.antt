-- Builds whose recipes neither read nor write. They show in which orders nodes can be done.
use Rattle.std.specs.Prelude.{ℕ, List, [], ◌∷◌, ◌++◌, None, if◌then◌else◌}
use Rattle.mk_graph.specs.Membership.{Has}
use Rattle.mk_graph.specs.Graph.{Graph, node}
use Rattle.mk_build.specs.Setting.{Setting}
use Rattle.mk_build.specs.World.{Disk, World, Idle, Busy, IsStartDisk}
use Rattle.mk_graph.specs.Schedules.{IsSchedule, IsPart}
use Rattle.mk_build.specs.Steps.{Step, Make, Begin, End, Pass, IsLegal, after_all}

-- Build inputs without given files, in which no recipe reads or writes.
abbrev pub empty_setting : Setting
empty_setting =
    record { reads = λ name. []; writes = λ name. []; sources = []; texts = []; fixed = [] }

-- The disk without files and without known outcomes.
abbrev pub empty_disk : Disk
empty_disk = record { files = λ f. None; clock = 0; known = [] }

-- The steps for one node: begin and end its recipe, without reads or writes, or pass the node if it
-- has no recipe.
abbrev pub node_steps : Graph → ℕ → List Step
node_steps g n = if (node g n).recipe then Begin n ∷ End n ∷ [] else (Pass n ∷ [])

-- The steps for each node of a schedule, in order. Schedules list the last node first.
abbrev pub steps_of : Graph → List ℕ → List Step
steps_of g [] = []
steps_of g (n ∷ ns) = steps_of g ns ++ node_steps g n

-- A make of these goals with one job that makes the nodes `ns` and then begins the recipe of t.
abbrev pub steps_until : Graph → (goals ns : List ℕ) → ℕ → List Step
steps_until g goals ns t = Make 1 goals ∷ (steps_of g ns ++ Begin t ∷ [])

-- A make is in progress and the node isn't done in it.
abbrev pub IsUndone : ℕ → World → Type 0
IsUndone n (Idle d) = ⊥
IsUndone n (Busy m d) = ¬ (Has m.done n)

-- From the empty disk, a make of these goals that makes the nodes `ns` is legal and begins t while
-- o isn't done.
pub record ShowsNotBefore (g : Graph) (o t : ℕ) (goals ns : List ℕ) : Type 0 where
  pub part : IsPart goals g.goals
  pub turns : IsSchedule g goals ns
  pub lacks : ¬ (Has ns o)
  pub start : IsStartDisk empty_setting empty_disk
  pub legal : IsLegal g empty_setting (Idle empty_disk) (steps_until g goals ns t)
  pub undone : IsUndone o (after_all g empty_setting (Idle empty_disk) (steps_until g goals ns t))
