use Rattle.std.proofs.Common.{◌≡◌, map, take}
use Rattle.std.specs.List.{flat_map}
use Rattle.std.specs.String.{string_bytes}
use Rattle.mk_explain.specs.Explain.{fault_line}
use Rattle.mk_explain.proofs.faults.fault_lines.Given as goal

-- the lines so far
abbrev pub invariant-loop-number : goal.invariant-loop-number
invariant-loop-number l = string_bytes l.text ≡ flat_map fault_line (map (λ row. (row.0, row.1.now, row.2.now)) (take l.number-index l.rows))
