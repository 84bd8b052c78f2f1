use Rattle.mk_graph.proofs.Sets.{no_members}
use Rattle.mk_graph.proofs.node_set.NodeSet.new.Goals as goal

pub returns : goal.returns
returns c n = no_members 64 n
