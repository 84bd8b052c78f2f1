use Rattle.std.proofs.Common.{◌≡◌, ℕ, drop, length, ◌⊎◌}
use Rattle.std.specs.Prelude.{◌↔◌}
use Rattle.mk_graph.specs.Membership.{Has}
use Rattle.mk_graph.specs.Progress.{row}
use Rattle.mk_graph_ready.proofs.rows.add_user.Given as goal

-- what is left to be added, and what is there
abbrev pub invariant-loop-number : goal.invariant-loop-number
invariant-loop-number l = record {
  many : length l.rows.items ≡ length l.fn.rows.items;
  left : (n p : ℕ) → (Has (row l.fn.rows.items n) p ⊎ ((p ≡ l.node) × Has l.numbers n)) ↔ (Has (row l.rows.items n) p ⊎ ((p ≡ l.node) × Has (drop l.number-index l.numbers) n));
}
