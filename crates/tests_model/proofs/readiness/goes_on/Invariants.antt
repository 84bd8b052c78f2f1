use Rattle.std.proofs.Common.{◌≡◌}
use Rattle.tests_model.proofs.readiness.goes_on.Given as goal

abbrev pub invariant-loop-number : goal.invariant-loop-number
invariant-loop-number g l = l.readiness.graph ≡ l.graph
