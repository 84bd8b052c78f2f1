use Rattle.std.proofs.Common.{◌≡◌, length}
use Rattle.std.specs.List.{slice_split}
use Rattle.mk_lines.specs.Bytes.{is_byte}
use Rattle.mk_lines.specs.Paths.{goes_up_first}
use Rattle.mk_lines.proofs.paths.goes_up_first.Given as goal

-- The result depends on the remaining components.
abbrev pub invariant-loop-after : goal.invariant-loop-after
invariant-loop-after l = goes_up_first (slice_split (is_byte 47) l.rest) ≡ goes_up_first (slice_split (is_byte 47) l.name)

abbrev pub decreases-loop-after : goal.decreases-loop-after
decreases-loop-after l = length l.rest
