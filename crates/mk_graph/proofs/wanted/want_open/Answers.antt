use Rattle.mk_graph.proofs.Loops.{group_within}
use Rattle.mk_graph.proofs.wanted.want_open.Goals as goal

pub insert_all-requires : goal.insert_all-requires
insert_all-requires c n h = c.requires n (group_within c.args.groups.now c.loop-group.group-index c.group-item.result c.deref.result.now c.loop-group-test.true c.group-item.is c.deref.ensures.value n h)
