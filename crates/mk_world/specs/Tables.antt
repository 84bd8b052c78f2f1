-- Tables: names, each with a value or without one.
use Rattle.std.specs.Prelude.{List, [], ◌∷◌, Option, None, if◌then◌else◌, bytes_eq}
use Rattle.mk_build.specs.Setting.{FileName}

-- The value of a name in the table: the one at its first position.
abbrev pub look : {A : Type 0} → List FileName → List (Option A) → FileName → Option A
look names [] f = None
look [] (x ∷ xs) f = None
look (h ∷ names) (x ∷ xs) f = if bytes_eq f h then x else look names xs f
