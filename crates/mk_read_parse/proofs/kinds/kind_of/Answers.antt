use Rattle.std.proofs.Common.{subst}
use Rattle.mk_read.specs.Kinds.{kind_of, of_trimmed}
use Rattle.mk_read_parse.specs.KindViews.{GivesKind, kind_view}
use Rattle.mk_read_parse.proofs.kinds.kind_of.Goals as goal

pub returns : goal.returns
unfolding kind_of
returns c = subst (λ line. GivesKind kind_view c.of_trimmed.result (of_trimmed line)) c.trimmed.ensures c.of_trimmed.ensures
