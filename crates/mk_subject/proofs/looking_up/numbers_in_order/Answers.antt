use Rattle.std.proofs.lemmas.Result.{IfOk-weaker}
use Rattle.mk_subject.proofs.Entries.{order_below}
use Rattle.mk_subject.proofs.looking_up.numbers_in_order.Goals as goal

pub returns-clause-nodes : goal.returns-clause-nodes
returns-clause-nodes c = IfOk-weaker c.serial.result _ _ (λ order same. order_below c.args.graph.now c.nodes-nodes.ensures.graph c.serial_reaches_each_once.ensures order.items same) c.serial.ensures
