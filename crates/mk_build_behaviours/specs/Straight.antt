-- Straight behaviours: a recipe that reads the same files whatever it finds, as in today's world.
use Rattle.std.specs.Prelude.{◌≡◌, ℕ, List, [], ◌∷◌, Option, Some, true, map}
use Rattle.mk_graph.specs.Membership.{Has, IsWithin}
use Rattle.mk_graph.specs.Graph.{Graph, node}
use Rattle.mk_build.specs.Setting.{FileName, Setting, reads}
use Rattle.mk_build.specs.World.{Outcome, World, Idle, Busy, outcome}
use Rattle.mk_build.specs.Steps.{Step, Look}
use Rattle.mk_build.specs.Clean.{Contents}
use Rattle.mk_build_behaviours.specs.Behaviours.{Behaviour, Read, Write, Behaviours, behaviour, path, result}

-- The behaviour that reads these files in order and then writes what the function gives for what it
-- saw.
abbrev pub straight : List FileName → (List (Option ℕ) → List ℕ) → Behaviour
straight [] write = Write (write [])
straight (f ∷ files) write = Read f (λ c. straight files (λ seen. write (c ∷ seen)))

-- Each recipe reads just its footprint, and writes what the function gives for what it saw.
abbrev pub AreStraight : Graph → Setting → Behaviours → (ℕ → List (Option ℕ) → List ℕ) → Type 0
AreStraight g s b write =
    (t : ℕ) → (node g t).recipe ≡ true → behaviour g b t ≡ straight (reads g s t) (write t)

-- The known outcomes are what the function gives.
abbrev pub AgreeWith : (ℕ → List (Option ℕ) → List ℕ) → List Outcome → Type 0
AgreeWith write known =
    (t : ℕ) (seen : List (Option ℕ)) (w : List ℕ) → outcome known t seen ≡ Some w → w ≡ write t seen

-- The known outcomes are those of the behaviours: a recipe that sees in its footprint what the run
-- of an outcome saw reads only files of its footprint, and writes what the outcome says.
abbrev pub AreOutcomesOf : Graph → Setting → Behaviours → List Outcome → Type 0
AreOutcomesOf g s b known =
    (t : ℕ) (at : Contents) (w : List ℕ) → (node g t).recipe ≡ true →
    outcome known t (map at (reads g s t)) ≡ Some w →
    IsWithin (path (behaviour g b t) at) (reads g s t) × (w ≡ result (behaviour g b t) at)

-- If the step is a look, it is at a file of the recipe's footprint.
abbrev pub LooksWithin : Graph → Setting → Step → Type 0
LooksWithin g s (Look t f) = Has (reads g s t) f
LooksWithin g s other = Unit {0}

-- All looks are at files of footprints.
abbrev pub AllLookWithin : Graph → Setting → List Step → Type 0
AllLookWithin g s [] = Unit {0}
AllLookWithin g s (step ∷ steps) = LooksWithin g s step × AllLookWithin g s steps

-- The world with these known outcomes.
abbrev pub with_outcomes : World → List Outcome → World
with_outcomes (Idle d) known = Idle (record d { known = known })
with_outcomes (Busy m d) known = Busy m (record d { known = known })
