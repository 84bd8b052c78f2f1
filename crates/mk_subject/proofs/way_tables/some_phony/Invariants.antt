use Rattle.std.proofs.Common.{◌≡◌, ℕ, true, take}
use Rattle.mk_graph.specs.Graph.{node}
use Rattle.mk_graph.specs.Membership.{Has}
use Rattle.mk_subject.proofs.way_tables.some_phony.Given as goal

-- none so far
abbrev pub invariant-loop-number : goal.invariant-loop-number
invariant-loop-number l = (p : ℕ) → Has (take l.number-index l.numbers) p → ¬ ((node l.graph p).phony ≡ true)
