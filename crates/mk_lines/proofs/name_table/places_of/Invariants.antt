use Rattle.std.proofs.Common.{◌≡◌, ℕ, List, map, take, string_bytes}
use Rattle.mk_lines.specs.Names.{place_from}
use Rattle.mk_lines.specs.Places.{place_in}
use Rattle.mk_lines.proofs.name_table.places_of.Given as goal

-- the places among the names so far
abbrev pub invariant-loop-i : goal.invariant-loop-i
invariant-loop-i l = (q : List ℕ) → place_in l.places q ≡ place_from 0 (map string_bytes (take l.i l.names)) q
