use Rattle.std.proofs.Common.{ℕ, drop, ◌⊎◌}
use Rattle.std.specs.Prelude.{◌↔◌}
use Rattle.mk_graph.specs.Membership.{Has}
use Rattle.mk_graph.specs.BitRows.{Lacks, RowLacks}
use Rattle.mk_graph.proofs.rows.meet_rows.Given as goal

abbrev pub invariant-loop-number : goal.invariant-loop-number
invariant-loop-number l = (n o : ℕ) → (RowLacks l.stride l.fn.words n o ⊎ (Has l.numbers n × Lacks l.gate o)) ↔ (RowLacks l.stride l.words n o ⊎ (Has (drop l.number-index l.numbers) n × Lacks l.gate o))
