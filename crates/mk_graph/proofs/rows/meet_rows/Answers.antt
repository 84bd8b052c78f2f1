use Rattle.std.proofs.Common.{arith}
use Rattle.mk_lemmas.proofs.Members.{Has-get_or}
use Rattle.mk_graph.proofs.RowBits.{met_more}
use Rattle.mk_graph.proofs.rows.meet_rows.Goals as goal

pub meet_row-requires-clause-room : goal.meet_row-requires-clause-room
meet_row-requires-clause-room c =
    let room = c.requires.rows _ (Has-get_or c.args.numbers.now c.loop-number.number-index 0 c.loop-number-test.true) in
    omega arith

pub loop-number-preserved : goal.loop-number-preserved
loop-number-preserved c = met_more c.args.numbers.now c.loop-number.number-index c.loop-number-test.true c.args.stride c.args.words.now c.loop-number.words c.meet_row.new.words c.args.gate.now c.meet_row.ensures c.loop-number.invariant
