use Rattle.std.proofs.Common.{◌≡◌, map, drop}
use Rattle.std.specs.String.{string_bytes}
use Rattle.mk_subject.specs.NodeRow.{lines_eq}
use Rattle.mk_subject.proofs.node_row.are_lines.Given as goal

-- the lines that are left decide
abbrev pub invariant-loop-place : goal.invariant-loop-place
invariant-loop-place l = lines_eq (map string_bytes (drop l.place l.commands)) (map (λ line. line.items) (drop l.place l.lines)) ≡ lines_eq (map string_bytes l.commands) (map (λ line. line.items) l.lines)
