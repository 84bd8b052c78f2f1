use Rattle.mk_read_laws.proofs.CommentLines.{comments_change_nothing}
use Rattle.mk_read_laws.proofs.laws.comment_lines_change_nothing.Goals as goal

pub returns : goal.returns
returns c = comments_change_nothing
