use Rattle.mk_lemmas.proofs.Members.{Has-get_or}
use Rattle.mk_graph_ready.proofs.state.State.look_at_each.Goals as goal

pub look-requires-clause-node : goal.look-requires-clause-node
look-requires-clause-node c = c.requires.nodes _ (Has-get_or c.args.numbers.now c.loop-number.number-index 0 c.loop-number-test.true)
