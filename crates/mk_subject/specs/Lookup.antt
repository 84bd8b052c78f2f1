-- Lists with a set for fast lookup.
use Rattle.std.specs.Prelude.{ℕ, List, Option, MatchOption, ◌↔◌}
use Rattle.std.specs.declared.boxed.Box.{Box}
use Rattle.std.specs.declared.alloc.Global.{Global}
use Rattle.mk_lines.specs.Names.{HoldsNames}
use Rattle.mk_graph.specs.Membership.{Has}

-- The set, if there is one, has the same numbers as the list.
abbrev pub AreSetOf : List ℕ → Option (Box (List ℕ) Global) → Type 0
AreSetOf list set = MatchOption set (Unit {0}) (λ b. (n : ℕ) → Has b.value n ↔ Has list n)

-- The set, if there is one, has the same names as the list.
abbrev pub AreNamesOf : List (List ℕ) → Option (Box (List (List ℕ)) Global) → Type 0
AreNamesOf list set = MatchOption set (Unit {0}) (λ b. HoldsNames b.value list)
