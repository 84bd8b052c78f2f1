-- Laws of recipes that break off.
use Rattle.std.specs.Prelude.{◌≡◌, ℕ, ◌≤◌, List, [], ◌∷◌, length, Bool, true, false, None}
use Rattle.mk_graph.specs.Membership.{Has}
use Rattle.mk_graph.specs.Graph.{Graph, node}
use Rattle.mk_build.specs.Setting.{FileName, Setting, name, writes}
use Rattle.mk_build.specs.World.{Disk, Making, Busy, disk_of}
use Rattle.mk_build.specs.Steps.{Step, Begin, Break, MustRun, Ready, Allowed, after, IsLegal, after_all}
use Rattle.mk_build.specs.BuildLaws.{AreInside}

-- The new disk is the old one without this file: it isn't there, and each other file is as it was.
abbrev pub IsWithout : Disk → FileName → Disk → Type 0
IsWithout d f new =
    (new.files f ≡ None) × ((h : FileName) → ¬ (f ≡ h) → new.files h ≡ d.files h)

-- A running recipe that writes its target may break off, so that the target is removed and each
-- other file stays; one that must run may break off, so that each file stays.
abbrev pub RecipesCanBreakOff : Type 0
RecipesCanBreakOff =
    (g : Graph) (s : Setting) (m : Making) (d : Disk) (t : ℕ) → Has m.running t →
    (Has (writes g s t) (name g t) →
    Allowed g s (Busy m d) (Break t true) ×
    IsWithout d (name g t) (disk_of (after g s (Busy m d) (Break t true)))) ×
    (MustRun g d t →
    Allowed g s (Busy m d) (Break t false) ×
    (disk_of (after g s (Busy m d) (Break t false)) ≡ d))

-- After a recipe broke off, another ready recipe may begin in its place.
abbrev pub OthersGoOn : Type 0
OthersGoOn =
    (g : Graph) (s : Setting) (m : Making) (d : Disk) (t n : ℕ) (removed : Bool) →
    Allowed g s (Busy m d) (Break t removed) → length m.running ≤ m.jobs →
    Ready g m n → (node g n).recipe ≡ true →
    IsLegal g s (Busy m d) (Break t removed ∷ Begin n ∷ [])

-- A recipe that broke off isn't begun again in the same make.
abbrev pub BrokenIsNotBegunAgain : Type 0
BrokenIsNotBegunAgain =
    (g : Graph) (s : Setting) (m : Making) (d : Disk) (t : ℕ) → Has m.broken t →
    (steps : List Step) → AreInside steps → IsLegal g s (Busy m d) steps →
    ¬ (Allowed g s (after_all g s (Busy m d) steps) (Begin t))
