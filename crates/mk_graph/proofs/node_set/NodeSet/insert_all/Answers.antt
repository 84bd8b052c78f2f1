use Rattle.mk_lemmas.proofs.Members.{Has-get_or}
use Rattle.mk_graph.proofs.Loops.{number_joins}
use Rattle.mk_graph.proofs.node_set.NodeSet.insert_all.Goals as goal

pub insert-requires : goal.insert-requires
insert-requires c = c.requires _ (Has-get_or c.args.numbers.now c.loop-number.number-index 0 c.loop-number-test.true)

pub loop-number-preserved : goal.loop-number-preserved
loop-number-preserved c = number_joins c.args.self.now c.loop-number.self c.insert.new.self c.args.numbers.now c.loop-number.number-index c.loop-number-test.true c.insert.ensures c.loop-number.invariant
