use Rattle.std.proofs.Common.{ℕ, ◌<◌, ◌⊎◌}
use Rattle.mk_graph.specs.Membership.{Has}
use Rattle.tests_model.specs.Rows.{row}
use Rattle.tests_model.proofs.graph_fixtures.have_parents.Given as goal

abbrev pub invariant-loop-number : goal.invariant-loop-number
invariant-loop-number l = (k : ℕ) → k < l.number → Has l.goals k ⊎ (n : ℕ) × (n < k) × Has (row l.rows n) k
