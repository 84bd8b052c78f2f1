use Rattle.std.proofs.Common.{◌≡◌, drop, map}
use Rattle.std.specs.String.{string_bytes}
use Rattle.mk_read.specs.Names.{has_name}
use Rattle.mk_infer_select.proofs.needed.has_name.Given as goal

-- the names that are left decide
abbrev pub invariant-loop-other : goal.invariant-loop-other
invariant-loop-other l = has_name (map string_bytes (drop l.other-index l.names)) l.name ≡ has_name (map string_bytes l.names) l.name
