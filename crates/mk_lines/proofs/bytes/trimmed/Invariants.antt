use Rattle.std.proofs.Common.{◌≡◌, length, drop}
use Rattle.std.specs.List.{prefix_len}
use Rattle.mk_lines.specs.Bytes.{is_blank}
use Rattle.mk_lines.proofs.bytes.trimmed.Given as goal

-- the remaining leading blanks end at the same position
abbrev pub invariant-loop-rest : goal.invariant-loop-rest
invariant-loop-rest l = drop (prefix_len is_blank l.rest) l.rest ≡ drop (prefix_len is_blank l.text) l.text

abbrev pub decreases-loop-rest : goal.decreases-loop-rest
decreases-loop-rest l = length l.rest
