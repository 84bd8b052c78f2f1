use Rattle.std.proofs.Common.{◌≡◌, Some, map, take, string_bytes}
use Rattle.mk_world.specs.Tables.{look}
use Rattle.mk_world.proofs.ending.all_of.Given as goal

-- what is known of the names so far
abbrev pub invariant-loop-name : goal.invariant-loop-name
invariant-loop-name g l = map (look l.names l.values) (map string_bytes (take l.name-index l.name-items)) ≡ map (λ x. Some x) l.all.items
