use Rattle.mk_graph_ready.proofs.Blocks.{none_noted}
use Rattle.mk_graph_ready.proofs.bytes.noted.Goals as goal

pub returns-in-None : goal.returns-in-None
returns-in-None c = λ i within one. absurd (none_noted c.args.bytes.now c.args.block c.min-end.result c.requires c.min-end.ensures c.in-None.ensures i within one)
