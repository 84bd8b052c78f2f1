use Rattle.mk_graph.proofs.Cycles.{no_cycle_gives_heights}
use Rattle.mk_graph.proofs.laws.no_cycle_gives_heights.Goals as goal

pub returns : goal.returns
returns c = no_cycle_gives_heights
