use Rattle.mk_graph.proofs.Cycles.{heights_forbid_cycles}
use Rattle.mk_graph.proofs.laws.heights_forbid_cycles.Goals as goal

pub returns : goal.returns
returns c = heights_forbid_cycles
