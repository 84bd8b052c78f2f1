use Rattle.std.proofs.Common.{◌≡◌, ◌<◌, length, map, take}
use Rattle.std.specs.String.{string_bytes}
use Rattle.mk_foot.specs.Names.{once}
use Rattle.mk_foot.proofs.names.are_distinct.Given as goal

-- the names so far come once, and are the set where there is one
abbrev pub invariant-loop-place : goal.invariant-loop-place
invariant-loop-place l = record {
  apart : once (take l.place (map string_bytes l.names)) ≡ take l.place (map string_bytes l.names);
  seen : 4 < length l.names → l.seen ≡ once (take l.place (map string_bytes l.names));
}
