use Rattle.std.proofs.Common.{◌≡◌, map, drop}
use Rattle.mk_subject.specs.NodeRow.{lines_eq}
use Rattle.mk_since.proofs.rules.are_lines.Given as goal

-- the lines that are left decide
abbrev pub invariant-loop-place : goal.invariant-loop-place
invariant-loop-place l = lines_eq (map (λ line. line.items) (drop l.place l.lines)) (map (λ line. line.items) (drop l.place l.own)) ≡ lines_eq (map (λ line. line.items) l.lines) (map (λ line. line.items) l.own)
