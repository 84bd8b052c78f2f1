use Rattle.std.proofs.Common.{ℕ, ◌<◌, get_or}
use Rattle.tests_model.proofs.graph_fixtures.are_below.Given as goal

abbrev pub invariant-loop-n : goal.invariant-loop-n
invariant-loop-n l = (k : ℕ) → k < l.n-index → get_or l.numbers k 0 < l.bound
