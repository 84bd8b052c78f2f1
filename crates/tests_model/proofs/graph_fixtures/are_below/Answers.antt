use Rattle.std.proofs.Common.{◌<◌, arith}
use Rattle.tests_model.proofs.Sound.{Has-from_All}
use Rattle.tests_model.proofs.graph_fixtures.are_below.Goals as goal

pub returns : goal.returns
returns c _ = Has-from_All (λ n. n < c.args.bound) c.args.numbers.now (λ k low. c.loop-n.invariant k (omega arith))
