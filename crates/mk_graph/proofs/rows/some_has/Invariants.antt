use Rattle.std.proofs.Common.{ℕ, drop}
use Rattle.std.specs.Prelude.{◌↔◌}
use Rattle.mk_graph.specs.Membership.{Has}
use Rattle.mk_graph.specs.BitRows.{RowLacks}
use Rattle.mk_graph.proofs.rows.some_has.Given as goal

abbrev pub invariant-loop-number : goal.invariant-loop-number
invariant-loop-number l = ((n : ℕ) → Has l.numbers n → RowLacks l.stride l.words n l.member) ↔ ((n : ℕ) → Has (drop l.number-index l.numbers) n → RowLacks l.stride l.words n l.member)
