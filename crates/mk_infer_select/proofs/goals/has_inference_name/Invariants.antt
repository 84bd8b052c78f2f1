use Rattle.std.proofs.Common.{◌≡◌, map, drop}
use Rattle.std.specs.List.{list_any}
use Rattle.std.specs.String.{string_bytes}
use Rattle.mk_read.specs.Special.{is_inference_name}
use Rattle.mk_infer_select.proofs.goals.has_inference_name.Given as goal

-- the targets that are left decide
abbrev pub invariant-loop-target : goal.invariant-loop-target
invariant-loop-target l = list_any (is_inference_name l.table.suffixes) (map string_bytes (drop l.target-index l.targets)) ≡ list_any (is_inference_name l.table.suffixes) (map string_bytes l.targets)
