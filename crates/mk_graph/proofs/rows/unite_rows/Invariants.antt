use Rattle.std.proofs.Common.{ℕ, drop}
use Rattle.std.specs.Prelude.{◌↔◌}
use Rattle.mk_graph.specs.Membership.{Has}
use Rattle.mk_graph.specs.BitRows.{Lacks, RowLacks}
use Rattle.mk_graph.proofs.rows.unite_rows.Given as goal

abbrev pub invariant-loop-number : goal.invariant-loop-number
invariant-loop-number l = (o : ℕ) → (Lacks l.fn.gate o × ((n : ℕ) → Has l.numbers n → RowLacks l.stride l.words n o)) ↔ (Lacks l.gate o × ((n : ℕ) → Has (drop l.number-index l.numbers) n → RowLacks l.stride l.words n o))
