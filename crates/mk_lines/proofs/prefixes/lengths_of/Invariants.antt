use Rattle.std.proofs.Common.{◌≡◌, ℕ, List, true, map, length, take, string_bytes}
use Rattle.std.specs.Prelude.{nat_eq}
use Rattle.indexmap.specs.IndexSet.{contains}
use Rattle.mk_lines.specs.Names.{has_name}
use Rattle.mk_lines.proofs.prefixes.lengths_of.Given as goal

-- the lengths of the names so far
abbrev pub invariant-loop-name : goal.invariant-loop-name
invariant-loop-name l = (name : List ℕ) → has_name (map string_bytes (take l.name-index l.names)) name ≡ true → contains nat_eq l.lengths (length name) ≡ true
