use Rattle.std.proofs.Common.{◌≡◌, drop, map, string_bytes}
use Rattle.mk_read.specs.Names.{has_name}
use Rattle.mk_read_parse.proofs.reading.has_suffix.Given as goal

-- The result depends on the remaining suffixes.
abbrev pub invariant-loop-suffix : goal.invariant-loop-suffix
invariant-loop-suffix l = has_name (map string_bytes (drop l.suffix-index l.suffixes)) l.bytes ≡ has_name (map string_bytes l.suffixes) l.bytes
