use Rattle.std.proofs.Common.{ℕ, drop, ◌⊎◌}
use Rattle.std.specs.Prelude.{◌↔◌}
use Rattle.mk_graph.specs.Membership.{Has}
use Rattle.mk_graph.proofs.node_set.NodeSet.insert_all.Given as goal

abbrev pub invariant-loop-number : goal.invariant-loop-number
invariant-loop-number l = (n : ℕ) → (Has l.numbers n ⊎ Has l.fn.self n) ↔ (Has (drop l.number-index l.numbers) n ⊎ Has l.self n)
