use Rattle.std.proofs.Common.{◌≡◌, ◌++◌, length}
use Rattle.mk_lines.specs.Lines.{command_of}
use Rattle.mk_lines.proofs.Pieces.{pieces}
use Rattle.mk_lines.proofs.joins.join_command.Given as goal

-- the text so far, and that of the pieces that are left
abbrev pub invariant-loop-after : goal.invariant-loop-after
invariant-loop-after l = l.text.items ++ command_of (pieces l.rest) ≡ command_of (pieces l.run)

abbrev pub decreases-loop-after : goal.decreases-loop-after
decreases-loop-after l = length l.rest
