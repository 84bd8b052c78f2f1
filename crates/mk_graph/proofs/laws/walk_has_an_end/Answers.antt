use Rattle.mk_graph.proofs.Cycles.{walk_has_an_end}
use Rattle.mk_graph.proofs.laws.walk_has_an_end.Goals as goal

pub returns : goal.returns
returns c = walk_has_an_end
