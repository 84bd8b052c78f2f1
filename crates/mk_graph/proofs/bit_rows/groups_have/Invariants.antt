use Rattle.std.proofs.Common.{ℕ, drop}
use Rattle.std.specs.Prelude.{◌↔◌}
use Rattle.mk_graph.specs.Membership.{Has}
use Rattle.mk_graph.specs.Without.{joined}
use Rattle.mk_graph.specs.BitRows.{RowLacks, lists}
use Rattle.mk_graph.proofs.bit_rows.groups_have.Given as goal

abbrev pub invariant-loop-group : goal.invariant-loop-group
invariant-loop-group l = ((n : ℕ) → Has (joined (lists l.groups)) n → RowLacks l.stride l.words n l.member) ↔ ((n : ℕ) → Has (joined (lists (drop l.group-index l.groups))) n → RowLacks l.stride l.words n l.member)
