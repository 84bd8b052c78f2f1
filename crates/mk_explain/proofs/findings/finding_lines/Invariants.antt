use Rattle.std.proofs.Common.{◌≡◌, map, take}
use Rattle.std.specs.List.{flat_map}
use Rattle.std.specs.String.{string_bytes}
use Rattle.mk_explain.specs.Explain.{finding_line}
use Rattle.mk_explain.proofs.findings.finding_lines.Given as goal

-- the lines so far
abbrev pub invariant-loop-word : goal.invariant-loop-word
invariant-loop-word l = string_bytes l.text ≡ flat_map finding_line (map (λ row. (row.0.now, row.1.now)) (take l.word-index l.rows))
