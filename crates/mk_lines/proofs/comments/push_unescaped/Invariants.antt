use Rattle.std.proofs.Common.{◌≡◌, ◌++◌, length}
use Rattle.mk_lines.specs.Comments.{unescaped}
use Rattle.mk_lines.proofs.comments.push_unescaped.Given as goal

-- what was added, and what the rest adds
abbrev pub invariant-loop-rest : goal.invariant-loop-rest
invariant-loop-rest l = l.into.items ++ unescaped l.rest ≡ l.fn.into.items ++ unescaped l.text

abbrev pub decreases-loop-rest : goal.decreases-loop-rest
decreases-loop-rest l = length l.rest
