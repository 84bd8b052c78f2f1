use Rattle.std.proofs.Common.{◌≡◌, map, drop, length, string_bytes}
use Rattle.mk_foot.specs.Names.{same_names}
use Rattle.mk_foot.proofs.checks.same_names.Given as goal

-- the names that are left decide
abbrev pub invariant-loop-i : goal.invariant-loop-i
invariant-loop-i l = (length l.goals ≡ length l.own) × (same_names (drop l.i l.goals) (map string_bytes (drop l.i l.own)) ≡ same_names l.goals (map string_bytes l.own))
