use Rattle.mk_graph.proofs.Cycles.{closes_only_cycles}
use Rattle.mk_graph.proofs.laws.closes_only_cycles.Goals as goal

pub returns : goal.returns
returns c = closes_only_cycles
