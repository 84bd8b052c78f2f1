use Rattle.std.proofs.Common.{◌≡◌, map, drop}
use Rattle.std.specs.Prelude.{find}
use Rattle.std.specs.String.{string_bytes}
use Rattle.mk_infer.specs.Goals.{is_plain_target}
use Rattle.mk_infer_select.proofs.goals.first_plain.Given as goal

-- the targets that are left decide
abbrev pub invariant-loop-target : goal.invariant-loop-target
invariant-loop-target l = find (is_plain_target l.table.suffixes) (map string_bytes (drop l.target-index l.targets)) ≡ find (is_plain_target l.table.suffixes) (map string_bytes l.targets)
