use Rattle.std.proofs.Common.{◌≡◌, drop, map, string_bytes}
use Rattle.std.specs.List.{list_any}
use Rattle.mk_read.specs.Special.{is_inference_name}
use Rattle.mk_read_parse.specs.Views.{is_joined}
use Rattle.mk_read_parse.proofs.reading.is_inference_name.Given as goal

-- The result depends on the remaining suffixes.
abbrev pub invariant-loop-suffix : goal.invariant-loop-suffix
invariant-loop-suffix l = list_any (λ suffix. is_joined (map string_bytes l.suffixes) l.name suffix) (map string_bytes (drop l.suffix-index l.suffixes)) ≡ is_inference_name (map string_bytes l.suffixes) l.name
