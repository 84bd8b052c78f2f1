use Rattle.std.proofs.Common.{◌≡◌, drop}
use Rattle.mk_lines.specs.Comments.{comment_from, comment_at}
use Rattle.mk_lines.proofs.Found.{moved}
use Rattle.mk_lines.proofs.comments.comment_at.Given as goal

-- The result depends on the rest of the text.
abbrev pub invariant-loop-at : goal.invariant-loop-at
invariant-loop-at l = moved l.at (comment_from l.behind_backslash (drop l.at l.text)) ≡ comment_at l.text
