use Rattle.mk_graph.proofs.Cycles.{comes_through_without_cycles}
use Rattle.mk_graph.proofs.laws.comes_through_without_cycles.Goals as goal

pub returns : goal.returns
returns c = comes_through_without_cycles
