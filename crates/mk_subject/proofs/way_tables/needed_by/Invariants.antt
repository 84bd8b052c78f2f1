use Rattle.std.proofs.Common.{◌≡◌, ℕ, List, [], length}
use Rattle.std.specs.Prelude.{◌↔◌}
use Rattle.mk_graph.specs.Graph.{prerequisites}
use Rattle.mk_graph.specs.Membership.{Has}
use Rattle.mk_subject.proofs.Rows.{RowsHold}
use Rattle.mk_subject.proofs.way_tables.needed_by.Given as goal

-- the lists so far
abbrev pub invariant-loop-number : goal.invariant-loop-number
invariant-loop-number l = record {
  many : length l.lists.items ≡ l.number;
  held : RowsHold (λ (t : ℕ) (set : List ℕ). (p : ℕ) → Has set p ↔ Has (prerequisites l.graph t) p) l.lists.items [];
}
