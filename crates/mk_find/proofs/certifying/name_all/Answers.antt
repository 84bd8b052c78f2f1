-- Each number is a node's.
use Rattle.mk_lemmas.proofs.Members.{Has-get_or}
use Rattle.mk_find.proofs.certifying.name_all.Goals as goal

pub name-requires : goal.name-requires
name-requires c = c.requires _ (Has-get_or c.args.nodes.now c.loop-node.node-index 0 c.loop-node-test.true)
