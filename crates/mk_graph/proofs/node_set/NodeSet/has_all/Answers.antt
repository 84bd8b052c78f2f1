use Rattle.std.proofs.lemmas.Bool.{false≢true}
use Rattle.std.proofs.Common.{refl}
use Rattle.mk_graph.proofs.Loops.{number_there, number_lacks}
use Rattle.mk_graph.proofs.node_set.NodeSet.has_all.Goals as goal

pub returns-then-not-has : goal.returns-then-not-has
returns-then-not-has c = (λ e. absurd (false≢true e), λ all. absurd (number_lacks c.args.self.now c.args.numbers.now c.loop-number.number-index c.loop-number-test.true (λ h. false≢true (c.if-not-has.ensures.1 h)) c.loop-number.invariant all))

pub loop-number-preserved : goal.loop-number-preserved
loop-number-preserved c = number_there c.args.self.now c.args.numbers.now c.loop-number.number-index c.loop-number-test.true (c.if-not-has.ensures.0 refl) c.loop-number.invariant
