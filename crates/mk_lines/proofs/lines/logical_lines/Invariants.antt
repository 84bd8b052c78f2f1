use Rattle.std.proofs.Common.{◌+◌, ◌≤◌, length}
use Rattle.std.specs.Option.{option_map}
use Rattle.mk_lines.specs.Bytes.{parts_left}
use Rattle.mk_lines.specs.Lines.{runs}
use Rattle.mk_lines.proofs.TextLeft.{size_left}
use Rattle.mk_lines.proofs.RunsLeft.{Left}
use Rattle.mk_lines.proofs.lines.logical_lines.Given as goal

-- the lines so far, and the runs of what is left of the text
abbrev pub invariant-loop-rest : goal.invariant-loop-rest
invariant-loop-rest l = record {
  left : Left l.lines.items l.first (runs (parts_left 10 (option_map (λ r. r.now) l.rest))) l.fn.text;
  counted : l.first + size_left (option_map (λ r. r.now) l.rest) ≤ length l.fn.text + 2;
}

abbrev pub decreases-loop-rest : goal.decreases-loop-rest
decreases-loop-rest l = size_left (option_map (λ r. r.now) l.rest)
