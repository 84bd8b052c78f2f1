use Rattle.std.proofs.Common.{◌≡◌, drop, map, string_bytes}
use Rattle.std.specs.List.{list_any}
use Rattle.mk_read.specs.Special.{is_inference_name}
use Rattle.mk_read_parse.proofs.reading.has_inference_name.Given as goal

-- The result depends on the remaining targets.
abbrev pub invariant-loop-target : goal.invariant-loop-target
invariant-loop-target l = list_any (is_inference_name (map string_bytes l.suffixes)) (map string_bytes (drop l.target-index l.targets)) ≡ list_any (is_inference_name (map string_bytes l.suffixes)) (map string_bytes l.targets)
