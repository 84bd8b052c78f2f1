use Rattle.std.proofs.Common.{◌≡◌, map, drop}
use Rattle.std.specs.String.{string_bytes}
use Rattle.mk_subject.specs.NodeRow.{lines_eq}
use Rattle.mk_since.proofs.rules.are_equal.Given as goal

-- the names that are left decide
abbrev pub invariant-loop-place : goal.invariant-loop-place
invariant-loop-place l = lines_eq (map string_bytes (drop l.place l.names)) (map string_bytes (drop l.place l.others)) ≡ lines_eq (map string_bytes l.names) (map string_bytes l.others)
