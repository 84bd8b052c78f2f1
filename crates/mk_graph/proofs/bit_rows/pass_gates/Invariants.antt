use Rattle.std.proofs.Common.{ℕ, drop, ◌⊎◌}
use Rattle.std.specs.Prelude.{◌↔◌}
use Rattle.mk_graph.specs.BitRows.{Lacks, RowLacks, IsOpenTo, lists}
use Rattle.mk_graph.proofs.bit_rows.pass_gates.Given as goal

abbrev pub invariant-loop-place : goal.invariant-loop-place
invariant-loop-place l = (n o : ℕ) → (RowLacks l.stride l.fn.first n o
    ⊎ (RowLacks l.stride l.fn.first l.number o × IsOpenTo (λ m. RowLacks l.stride l.done m o) (lists l.groups)
    n)) ↔ (RowLacks l.stride l.first n o ⊎ (Lacks l.gate o
    × IsOpenTo (λ m. RowLacks l.stride l.done m o) (lists (drop l.place l.groups)) n))
