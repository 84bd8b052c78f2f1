use Rattle.mk_graph.proofs.RowBits.{lacks_inserted}
use Rattle.mk_graph.proofs.rows.insert.Goals as goal

pub returns : goal.returns
returns c o = lacks_inserted c.args.gate.now c.args.member c.requires o
