use Rattle.std.proofs.Common.{ℕ, drop}
use Rattle.std.specs.Prelude.{◌↔◌}
use Rattle.mk_graph.specs.Membership.{Has}
use Rattle.mk_graph.specs.Without.{joined}
use Rattle.mk_graph.specs.BitRows.{Lacks, RowLacks, lists}
use Rattle.mk_graph.proofs.bit_rows.unite_groups.Given as goal

abbrev pub invariant-loop-group : goal.invariant-loop-group
invariant-loop-group l = (o : ℕ) → (Lacks l.fn.gate o × ((n : ℕ) → Has (joined (lists l.groups)) n → RowLacks l.stride l.words n o)) ↔ (Lacks l.gate o × ((n : ℕ) → Has (joined (lists (drop l.group-index l.groups))) n → RowLacks l.stride l.words n o))
