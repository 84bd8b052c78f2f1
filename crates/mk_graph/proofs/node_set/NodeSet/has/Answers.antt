use Rattle.mk_graph.proofs.Sets.{tests_member, no_member_beyond}
use Rattle.mk_graph.proofs.node_set.NodeSet.has.Goals as goal

pub returns-in-Some : goal.returns-in-Some
returns-in-Some c = rw (← c.self.view_is) (tests_member c.self.inside.words c.args.number c.in-Some.word.now (c.in-Some.ensures.lookup.3.1 0))

pub returns-in-None : goal.returns-in-None
returns-in-None c = rw (← c.self.view_is) (no_member_beyond c.self.inside.words c.args.number c.in-None.ensures.lookup.3)
