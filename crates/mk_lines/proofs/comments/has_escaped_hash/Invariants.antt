use Rattle.std.proofs.Common.{◌≡◌, length}
use Rattle.mk_lines.specs.Comments.{has_escaped_hash}
use Rattle.mk_lines.proofs.comments.has_escaped_hash.Given as goal

-- The result depends on the rest of the text.
abbrev pub invariant-loop-rest : goal.invariant-loop-rest
invariant-loop-rest l = has_escaped_hash l.rest ≡ has_escaped_hash l.text

abbrev pub decreases-loop-rest : goal.decreases-loop-rest
decreases-loop-rest l = length l.rest
