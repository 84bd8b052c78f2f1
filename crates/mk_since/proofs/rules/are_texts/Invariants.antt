use Rattle.std.proofs.Common.{◌≡◌, map, drop}
use Rattle.std.specs.String.{string_bytes}
use Rattle.mk_subject.specs.NodeRow.{lines_eq}
use Rattle.mk_since.proofs.rules.are_texts.Given as goal

-- the lines that are left decide
abbrev pub invariant-loop-place : goal.invariant-loop-place
invariant-loop-place l = lines_eq (map (λ line. line.items) (drop l.place l.lines)) (map string_bytes (drop l.place l.texts)) ≡ lines_eq (map (λ line. line.items) l.lines) (map string_bytes l.texts)
