use Rattle.mk_claims.proofs.ShownLines.{shown_close_none}
use Rattle.mk_claims.proofs.laws.shown_close_no_cycle.Goals as goal

pub returns : goal.returns
returns c = shown_close_none
