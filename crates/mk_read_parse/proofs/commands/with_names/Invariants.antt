use Rattle.std.proofs.Common.{◌≡◌, ℕ, List, ◌||◌, drop, map, string_bytes}
use Rattle.mk_read.specs.Names.{has_name}
use Rattle.mk_read_parse.proofs.commands.with_names.Given as goal

-- the names of the set, and those that are left
abbrev pub invariant-loop-name : goal.invariant-loop-name
invariant-loop-name l = (name : List ℕ) → (has_name l.all name || has_name (map string_bytes (drop l.name-index l.names)) name) ≡ (has_name l.fn.set name || has_name (map string_bytes l.names) name)
