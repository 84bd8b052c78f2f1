-- A make in which nothing runs may be stopped, and another one begun.
use Rattle.std.proofs.Common.{◌≡◌, ℕ, ◌<◌, List, [], ◌∷◌, ◌++◌, refl, ◌∙◌, ap}
use Rattle.mk_graph.specs.Graph.{Graph}
use Rattle.mk_build.specs.Setting.{Setting}
use Rattle.mk_build.specs.World.{Disk, World, Idle, Busy, disk_of}
use Rattle.mk_graph.specs.Schedules.{IsPart}
use Rattle.mk_build.specs.Steps.{Step, Make, Stop, IsLegal, after_all, disk_after}
use Rattle.mk_build.specs.BuildLaws.{NothingRuns}
use Rattle.mk_build.proofs.WholeRuns.{legal_append, after_append}

module _ (g : Graph) (s : Setting) where
  -- in such a world
  stops_in : (w : World) → NothingRuns w → (jobs : ℕ) (goals : List ℕ) → 0 < jobs → IsPart goals g.goals → IsLegal g s w (Stop ∷ Make jobs goals ∷ []) × (disk_of (after_all g s w (Stop ∷ [])) ≡ disk_of w)
  stops_in (Idle d) none jobs goals some part = absurd none
  stops_in (Busy m d) none jobs goals some part = ((none, ((some, part), tt)), refl)

  -- behind a legal history
  pub can_be_stopped : (d : Disk) (steps : List Step) → IsLegal g s (Idle d) steps
      → NothingRuns (after_all g s (Idle d) steps) → (jobs : ℕ) (goals : List ℕ) → 0 < jobs
      → IsPart goals g.goals → IsLegal g s (Idle d) (steps ++ (Stop ∷ Make jobs goals ∷ []))
      × (disk_after g s d (steps ++ Stop ∷ []) ≡ disk_after g s d steps)
  can_be_stopped d steps legal none jobs goals some part =
      let stops = stops_in (after_all g s (Idle d) steps) none jobs goals some part in
      (legal_append g s (Idle d) steps (Stop ∷ Make jobs goals ∷ []) legal stops.0, ap (λ (w : World). disk_of w) (after_append g s (Idle d) steps (Stop ∷ [])) ∙ stops.1)
