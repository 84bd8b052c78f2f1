-- How a table of outcomes represents a list of outcomes.
use Rattle.std.specs.Prelude.{◌≡◌, ℕ, List, Option, map, reverse, option_map, nat_eq, ◌&&◌, Bool, Vec}
use Rattle.std.specs.declared.alloc.Global.{Global}
use Rattle.std.specs.Map.{lookup}
use Rattle.mk_build.specs.World.{Outcome, outcome, same_seen}
use Rattle.mk_world.specs.declared.outcomes.Sight.{Sight}

-- The outcome that an entry of the table represents.
abbrev pub outcome_of : Sight × Vec ℕ Global → Outcome
outcome_of e = record { recipe = e.0.recipe; seen = e.0.seen.items; written = e.1.items }

-- The outcomes of a table, the last one first.
abbrev pub outcomes_of : List (Sight × Vec ℕ Global) → List Outcome
outcomes_of entries = reverse (map outcome_of entries)

-- Whether the key is of this recipe, having read this.
abbrev pub is_same : (t : ℕ) → List (Option ℕ) → Sight → Bool
is_same t seen k = nat_eq t k.recipe && same_seen seen k.seen.items

-- A lookup in the table finds the known outcome.
abbrev pub AreFound : List (Sight × Vec ℕ Global) → Type 0
AreFound entries =
    (t : ℕ) (seen : List (Option ℕ)) →
    option_map (λ (w : Vec ℕ Global). w.items) (lookup (is_same t seen) entries) ≡
    outcome (outcomes_of entries) t seen
