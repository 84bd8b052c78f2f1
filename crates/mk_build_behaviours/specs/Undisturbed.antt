-- Traces in which no file that a recipe reads changes before the end of its run.
use Rattle.std.specs.Prelude.{◌≡◌, ℕ, List, [], ◌∷◌, None}
use Rattle.mk_graph.specs.Membership.{Has}
use Rattle.mk_graph.specs.Graph.{Graph}
use Rattle.mk_build.specs.Setting.{FileName, Setting, writes}
use Rattle.mk_build.specs.World.{Disk, World, Idle, Busy}
use Rattle.mk_build.specs.Steps.{Step, Make}
use Rattle.mk_build.specs.Clean.{Contents}
use Rattle.mk_build_behaviours.specs.Behaviours.{Behaviours, behaviour, path}
use Rattle.mk_build_behaviours.specs.StepsBy.{after_by, IsLegalBy, AreUndisturbed}

-- If the step begins a make, that has one job.
abbrev pub HasOneJob : Step → Type 0
HasOneJob (Make jobs goals) = jobs ≡ 1
HasOneJob other = Unit {0}

-- All makes have one job.
abbrev pub HaveOneJob : List Step → Type 0
HaveOneJob [] = Unit {0}
HaveOneJob (step ∷ steps) = HasOneJob step × HaveOneJob steps

-- No recipe reads what it writes, whatever files contain.
abbrev pub ReadNoOwn : Graph → Setting → Behaviours → Type 0
ReadNoOwn g s b =
    (t : ℕ) (at : Contents) (f : FileName) → Has (path (behaviour g b t) at) f →
    ¬ (Has (writes g s t) f)

-- If no recipe reads what it writes, then in makes with one job no file that a recipe reads changes
-- before the end of its run.
abbrev pub OneJobIsUndisturbed : Type 0
OneJobIsUndisturbed =
    (g : Graph) (s : Setting) (b : Behaviours) → ReadNoOwn g s b → (d : Disk) (steps : List Step) →
    HaveOneJob steps → IsLegalBy g s b (Idle d) steps → AreUndisturbed g s b (Idle d) steps

-- No running recipe writes a file at which a running one, be it itself, has looked.
abbrev pub AreApart : Graph → Setting → World → Type 0
AreApart g s (Idle d) = Unit {0}
AreApart g s (Busy m d) =
    (t o : ℕ) (f : FileName) → Has m.running t → Has m.running o → ¬ (m.seen t f ≡ None) →
    ¬ (Has (writes g s o) f)

-- So it is before each of these steps.
abbrev pub StayApart : Graph → Setting → World → List Step → Type 0
StayApart g s world [] = Unit {0}
StayApart g s world (step ∷ steps) =
    AreApart g s world × StayApart g s (after_by g s world step) steps

-- If no recipe runs while another one runs that writes what it has looked at, no file that a recipe
-- reads changes before the end of its run.
abbrev pub ApartIsUndisturbed : Type 0
ApartIsUndisturbed =
    (g : Graph) (s : Setting) (b : Behaviours) (d : Disk) (steps : List Step) →
    StayApart g s (Idle d) steps → IsLegalBy g s b (Idle d) steps →
    AreUndisturbed g s b (Idle d) steps
