use Rattle.std.proofs.Common.{◌+◌, ◌-◌, ◌*◌, arith}
use Rattle.mk_graph.proofs.RowBits.{row_met}
use Rattle.mk_graph.proofs.rows.meet_row.Goals as goal

pub returns : goal.returns
returns c = row_met c.args.stride c.args.words.now c.args.number c.requires.room (c.args.number * c.args.stride + c.args.stride - c.args.number * c.args.stride) c.meet.new.words (omega arith) (omega arith) c.args.gate.now c.requires.size c.meet.ensures
