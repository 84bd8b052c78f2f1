-- A make with one job that runs a schedule and then begins a recipe.
use Rattle.std.specs.Prelude.{◌≡◌, ℕ, List, [], ◌∷◌, ◌++◌, reverse}
use Rattle.mk_graph.specs.Graph.{Graph}
use Rattle.mk_build.specs.Setting.{Setting}
use Rattle.mk_build.specs.World.{Disk, World, Idle, Busy}
use Rattle.mk_build.specs.Steps.{Step, Make, Begin, make_of}
use Rattle.mk_build.specs.NodeByNode.{MakesAll}

-- A make of these goals with one job that takes these steps and then begins t.
abbrev pub until_begin : (goals : List ℕ) (steps : List Step) (t : ℕ) → List Step
until_begin goals steps t = Make 1 goals ∷ (steps ++ Begin t ∷ [])

-- The steps make the nodes of this schedule, which lists the last node first, in a make of these
-- goals with one job that begins on this disk.
abbrev pub MakesSchedule : Graph → Setting → Disk → (goals ns : List ℕ) → List Step → Type 0
MakesSchedule g s d goals ns = MakesAll g s (Busy (make_of 1 goals) d) (reverse ns)

-- In the make in progress only t runs, and exactly these nodes are done.
abbrev pub RunsAlone : (done : List ℕ) (t : ℕ) → World → Type 0
RunsAlone done t (Idle d) = ⊥
RunsAlone done t (Busy m d) = (m.done ≡ done) × (m.running ≡ t ∷ [])
