use Rattle.std.proofs.Common.{◌≡◌, ◌++◌, drop, string_bytes}
use Rattle.std.specs.List.{flat_map}
use Rattle.mk_repair.specs.Lines.{line_with}
use Rattle.mk_repair.proofs.lines.push_lines_with.Given as goal

-- the text so far, with the lines that are left
abbrev pub invariant-loop-part : goal.invariant-loop-part
invariant-loop-part l = string_bytes l.out ++ flat_map (λ part. line_with l.targets (string_bytes part)) (drop l.part-index l.prerequisites) ≡ string_bytes l.fn.out ++ flat_map (λ part. line_with l.targets (string_bytes part)) l.prerequisites
