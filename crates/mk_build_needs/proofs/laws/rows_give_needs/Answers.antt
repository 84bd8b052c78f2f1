use Rattle.mk_build_needs.proofs.Graphs.{rows_give_needs}
use Rattle.mk_build_needs.proofs.laws.rows_give_needs.Goals as goal

pub returns : goal.returns
returns c = rows_give_needs
