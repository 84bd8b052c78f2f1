use Rattle.std.proofs.Common.{arith}
use Rattle.mk_graph.proofs.Sets.{member_more}
use Rattle.mk_graph.proofs.node_set.NodeSet.insert.Goals as goal

pub returns : goal.returns
returns c n = rw (← c.self.view_is) (member_more c.self.inside.words c.args.number (omega (arith, c.self.told, c.requires)) n)
