-- Laws of straight behaviours: with these, builds are those of today's world.
use Rattle.std.specs.Prelude.{◌≡◌, ℕ, List, Option, length}
use Rattle.mk_graph.specs.Graph.{Graph}
use Rattle.mk_build.specs.Setting.{Setting, writes}
use Rattle.mk_build.specs.World.{Outcome, Disk, Idle}
use Rattle.mk_build.specs.Steps.{Step, IsLegal, after_all, disk_after}
use Rattle.mk_build_behaviours.specs.Behaviours.{Behaviours}
use Rattle.mk_build_behaviours.specs.CleanBy.{ArePresent}
use Rattle.mk_build_behaviours.specs.StepsBy.{IsLegalBy, after_all_by}
use Rattle.mk_build_behaviours.specs.Straight.{AreStraight, AgreeWith, AreOutcomesOf, AllLookWithin, with_outcomes}

-- If behaviours are straight and looks are at files of footprints, each trace by behaviours is a
-- trace of today's world, and leaves the same world but for the known outcomes.
abbrev pub StraightTracesAreTodays : Type 0
StraightTracesAreTodays =
    (g : Graph) (s : Setting) (b : Behaviours) (write : ℕ → List (Option ℕ) → List ℕ) →
    AreStraight g s b write → (d : Disk) → AgreeWith write d.known → (steps : List Step) →
    AllLookWithin g s steps → IsLegalBy g s b (Idle d) steps →
    IsLegal g s (Idle d) steps ×
    ((known : List Outcome) ×
    (after_all g s (Idle d) steps ≡ with_outcomes (after_all_by g s (Idle d) steps) known))

-- A trace of today's world is a trace by behaviours if the outcomes known at its end are those of
-- the behaviours, straight or not. Looks may come in any order.
abbrev pub TodaysTracesAreTraces : Type 0
TodaysTracesAreTraces =
    (g : Graph) (s : Setting) (b : Behaviours) (d : Disk) (steps : List Step) →
    IsLegal g s (Idle d) steps → AreOutcomesOf g s b (disk_after g s d steps).known →
    IsLegalBy g s b (Idle d) steps

-- Outcomes that the function gives are those of the straight behaviours that it gives.
abbrev pub StraightOutcomesAreThese : Type 0
StraightOutcomesAreThese =
    (g : Graph) (s : Setting) (b : Behaviours) (write : ℕ → List (Option ℕ) → List ℕ) →
    AreStraight g s b write → (known : List Outcome) → AgreeWith write known →
    AreOutcomesOf g s b known

-- If behaviours are straight and each writes as many contents as its recipe has files, footprints
-- are present, whatever the sources contain.
abbrev pub StraightFootprintsArePresent : Type 0
StraightFootprintsArePresent =
    (g : Graph) (s : Setting) (b : Behaviours) (write : ℕ → List (Option ℕ) → List ℕ) →
    AreStraight g s b write →
    ((t : ℕ) (seen : List (Option ℕ)) → length (write t seen) ≡ length (writes g s t)) →
    (d : Disk) → ArePresent g s b d
