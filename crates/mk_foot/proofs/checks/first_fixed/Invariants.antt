use Rattle.std.proofs.Common.{◌≡◌, map, drop, string_bytes}
use Rattle.std.specs.Prelude.{find}
use Rattle.mk_foot.specs.Names.{begins_with_any}
use Rattle.mk_foot.proofs.checks.first_fixed.Given as goal

-- the first one is among the sources that are left
abbrev pub invariant-loop-source : goal.invariant-loop-source
invariant-loop-source l = find (begins_with_any l.fixed) (map string_bytes (drop l.source-index l.sources)) ≡ find (begins_with_any l.fixed) (map string_bytes l.sources)
