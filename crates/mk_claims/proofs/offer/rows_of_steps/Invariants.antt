use Rattle.std.proofs.Common.{◌≡◌, ◌<◌, ℕ, length, map, take}
use Rattle.mk_graph.specs.Progress.{row}
use Rattle.mk_claims.specs.Offers.{needed_in, step_view}
use Rattle.mk_claims.proofs.offer.rows_of_steps.Given as goal

-- what the steps so far give
abbrev pub invariant-loop-step : goal.invariant-loop-step
invariant-loop-step l = record {
  many : length l.rows.items ≡ l.count;
  rows : (n : ℕ) → n < l.count → row l.rows.items n ≡ needed_in n (map step_view (take l.step-index l.steps));
}
