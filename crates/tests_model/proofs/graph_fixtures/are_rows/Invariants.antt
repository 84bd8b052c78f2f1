use Rattle.std.proofs.Common.{ℕ, ◌<◌, length}
use Rattle.mk_graph.specs.Membership.{Has}
use Rattle.tests_model.specs.Rows.{row}
use Rattle.tests_model.proofs.graph_fixtures.are_rows.Given as goal

abbrev pub invariant-loop-numbers : goal.invariant-loop-numbers
invariant-loop-numbers l = (n : ℕ) → n < l.numbers-index → (p : ℕ) → Has (row l.rows n) p → p < length l.rows
