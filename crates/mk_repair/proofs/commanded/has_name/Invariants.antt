use Rattle.std.proofs.Common.{◌≡◌, drop, map, string_bytes}
use Rattle.mk_read.specs.Names.{has_name}
use Rattle.mk_repair.proofs.commanded.has_name.Given as goal

-- the result depends on the names that are left
abbrev pub invariant-loop-other : goal.invariant-loop-other
invariant-loop-other l = has_name (map string_bytes (drop l.other-index l.names)) l.name ≡ has_name (map string_bytes l.names) l.name
