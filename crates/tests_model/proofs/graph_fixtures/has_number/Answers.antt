use Rattle.std.proofs.Common.{subst}
use Rattle.mk_lemmas.proofs.Members.{Has-get_or}
use Rattle.mk_graph.specs.Membership.{Has}
use Rattle.tests_model.proofs.graph_fixtures.has_number.Goals as goal

pub returns-then-n-number : goal.returns-then-n-number
returns-then-n-number c _ = subst (λ k. Has c.args.numbers.now k) c.if-n-number.true (Has-get_or c.args.numbers.now c.loop-n.n-index 0 c.loop-n-test.true)
