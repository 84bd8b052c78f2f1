use Rattle.std.proofs.Common.{◌≡◌, drop, map, string_bytes}
use Rattle.mk_read.specs.Special.{special_among}
use Rattle.mk_read_parse.proofs.rules.special_among.Given as goal

-- The result depends on the remaining targets.
abbrev pub invariant-loop-target : goal.invariant-loop-target
invariant-loop-target l = special_among (map string_bytes (drop l.target-index l.targets)) ≡ special_among (map string_bytes l.targets)
