-- A set of names whose first name is stored apart.
use Rattle.std.specs.Prelude.{ℕ, List, [], ◌∷◌, Option, None, Some}
use Rattle.std.specs.Borrow.{Bor}
use Rattle.std.specs.declared.boxed.Box.{Box}
use Rattle.std.specs.declared.alloc.Global.{Global}

-- The names of the set, if there is one.
abbrev pub names_in : Option (Box (List (List ℕ)) Global) → List (List ℕ)
names_in None = []
names_in (Some set) = set.value

-- The first name, if there is one, followed by the others.
abbrev pub names_seen : Option (Bor (List ℕ)) → Option (Box (List (List ℕ)) Global) →
    List (List ℕ)
names_seen None others = []
names_seen (Some first) others = first.now ∷ names_in others
