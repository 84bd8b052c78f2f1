use Rattle.std.proofs.Common.{ℕ, drop, ◌⊎◌}
use Rattle.std.specs.Prelude.{◌↔◌}
use Rattle.mk_graph.specs.BitRows.{lists}
use Rattle.mk_graph.specs.Membership.{Has}
use Rattle.mk_graph.specs.Schedules.{InOpenGroup}
use Rattle.mk_graph.proofs.wanted.want_open.Given as goal

abbrev pub invariant-loop-group : goal.invariant-loop-group
invariant-loop-group l = (n : ℕ) → (InOpenGroup l.done (lists l.groups) n ⊎ Has l.fn.wanted n) ↔ (InOpenGroup l.done (lists (drop l.group-index l.groups)) n ⊎ Has l.wanted n)
