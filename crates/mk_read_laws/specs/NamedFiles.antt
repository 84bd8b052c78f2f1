-- The law that a makefile depends only on the files that it names.
use Rattle.std.specs.Prelude.{◌≡◌, ℕ, ◌+◌, Bool, List, length, All, Option, Ok}
use Rattle.mk_read.specs.Following.{Later}
use Rattle.mk_read.specs.Reading.{Reader, Makefile, makefile}

-- For each of these names both readers have the same text, or both have none.
abbrev pub AgreeOn : (one other : Reader) → List (List ℕ) → Type 0
AgreeOn one other names = All (λ name. one.text name ≡ other.text name) names

-- A makefile depends only on the files that it names: if one reader gives a makefile, another one
-- gives the same makefile where it agrees on each text that was read and each missing file that was
-- skipped, and where its failing read, if there is one, comes after these reads.
abbrev pub OnlyNamedFilesCount : Type 0
OnlyNamedFilesCount =
    (one other : Reader) → (name : Option (List ℕ)) → (defaults : Bool) →
    (operands : List (List ℕ)) → (m : Makefile)
    → makefile one name defaults operands ≡ Ok m
    → AgreeOn one other m.texts → AgreeOn one other m.passed_over
    → Later (length m.texts + length m.passed_over) other.failing
    → makefile other name defaults operands ≡ Ok m
