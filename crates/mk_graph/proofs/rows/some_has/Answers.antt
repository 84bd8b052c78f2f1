use Rattle.mk_lemmas.proofs.Members.{Has-get_or}
use Rattle.mk_graph.proofs.rows.some_has.Goals as goal

pub has-requires : goal.has-requires
has-requires c = c.requires _ (Has-get_or c.args.numbers.now c.loop-number.number-index 0 c.loop-number-test.true)
