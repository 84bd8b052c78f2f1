-- Recipes that stay the same where the makefile changes.
use Rattle.std.specs.Prelude.{◌≡◌, ℕ, List, Option, Some, None, map}
use Rattle.mk_build.specs.Setting.{FileName, name, reads, writes}
use Rattle.mk_build.specs.Clean.{Contents}
use Rattle.mk_build_behaviours.specs.Behaviours.{Behaviour, Read, Write, behaviour}
use Rattle.mk_build_since.specs.Named.{Build, HasFile, WasRecipe, AreSameFiles}

-- Whoever has the first contents in the first files has the second contents in the second files.
abbrev pub HoldAlike : List FileName → List ℕ → List FileName → List ℕ → Type 0
HoldAlike files contents others values =
    (at : Contents) → map at files ≡ map (λ c. Some c) contents →
    map at others ≡ map (λ c. Some c) values

-- The behaviours of recipes that write these files in the old build and these in the new one are
-- alike: both read the same file and go on alike, or write the same into the same files. A read of
-- a file that only one of the builds has may be lacking in the other one, where the recipe goes on
-- as if that file weren't there.
pub data AreAlike (old new : Build) (files others : List FileName) : Behaviour → Behaviour → Type 0
  where
    both : {f : FileName} {p q : Option ℕ → Behaviour} →
        ((c : Option ℕ) → AreAlike old new files others (p c) (q c)) →
        AreAlike old new files others (Read f p) (Read f q)
    gone : {f : FileName} {p : Option ℕ → Behaviour} {q : Behaviour} → ¬ (HasFile new f) →
        AreAlike old new files others (p None) q → AreAlike old new files others (Read f p) q
    came : {f : FileName} {p : Behaviour} {q : Option ℕ → Behaviour} → ¬ (HasFile old f) →
        AreAlike old new files others p (q None) → AreAlike old new files others p (Read f q)
    ends : {contents values : List ℕ} → HoldAlike files contents others values →
        AreAlike old new files others (Write contents) (Write values)

-- o and t are the same recipe: they have the same target and commands, and write and read the same
-- files. So whatever makes commands do something else, such as another program of the same name,
-- has to show in what they read.
abbrev pub IsSameRecipe : (old new : Build) → (o t : ℕ) → Type 0
IsSameRecipe old new o t =
    WasRecipe old new o t ×
    (old.commands (name old.graph o) ≡ new.commands (name new.graph t)) ×
    AreSameFiles (writes old.graph old.setting o) (writes new.graph new.setting t) ×
    AreSameFiles (reads old.graph old.setting o) (reads new.graph new.setting t)

-- The same recipe behaves alike in both builds.
abbrev pub BehaveAlike : (old new : Build) → Type 0
BehaveAlike old new =
    (o t : ℕ) → IsSameRecipe old new o t →
    AreAlike old new (writes old.graph old.setting o) (writes new.graph new.setting t)
    (behaviour old.graph old.behaviours o) (behaviour new.graph new.behaviours t)
