use Rattle.std.proofs.Common.{◌≡◌, false, map, take}
use Rattle.std.specs.String.{string_bytes}
use Rattle.mk_lines.specs.Names.{has_name}
use Rattle.mk_foot.proofs.repeats.contains_by_scan.Given as goal

-- none of the names so far is it
abbrev pub invariant-loop-other : goal.invariant-loop-other
invariant-loop-other l = has_name (map string_bytes (take l.other-index l.names)) l.name ≡ false
