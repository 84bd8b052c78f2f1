use Rattle.mk_graph.proofs.Loops.{group_within}
use Rattle.mk_graph.proofs.RowBits.{group_united}
use Rattle.mk_graph.proofs.bit_rows.unite_groups.Goals as goal

pub unite_rows-requires-clause-rows : goal.unite_rows-requires-clause-rows
unite_rows-requires-clause-rows c n h = c.requires.rows n (group_within c.args.groups.now c.loop-group.group-index c.group-item.result c.deref.result.now c.loop-group-test.true c.group-item.is c.deref.ensures.value n h)

pub loop-group-preserved : goal.loop-group-preserved
loop-group-preserved c = group_united c.args.groups.now c.loop-group.group-index c.group-item.result
    c.deref.result.now c.loop-group-test.true c.group-item.is c.deref.ensures.value c.args.stride
    c.args.words.now c.args.gate.now c.loop-group.gate c.unite_rows.new.gate c.unite_rows.ensures
    c.loop-group.invariant
