use Rattle.std.proofs.Common.{◌≡◌, map, drop, string_bytes}
use Rattle.mk_lines.specs.Names.{place_from}
use Rattle.mk_world.proofs.lent.place_among.Given as goal

-- the name is sought among those that are left
abbrev pub invariant-loop-i : goal.invariant-loop-i
invariant-loop-i l = place_from 0 (map string_bytes l.names) l.name ≡ place_from l.i (map string_bytes (drop l.i l.names)) l.name
