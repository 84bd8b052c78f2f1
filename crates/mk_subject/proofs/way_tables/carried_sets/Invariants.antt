use Rattle.std.proofs.Common.{◌≡◌, ℕ, List, [], length}
use Rattle.std.specs.Prelude.{◌↔◌}
use Rattle.mk_graph.specs.Membership.{Has}
use Rattle.mk_build.specs.Ways.{Carries}
use Rattle.mk_subject.specs.Subject.{footprints}
use Rattle.mk_subject.proofs.Rows.{RowsHold}
use Rattle.mk_subject.proofs.way_tables.carried_sets.Given as goal

-- the sets so far
abbrev pub invariant-loop-number : goal.invariant-loop-number
invariant-loop-number l = record {
  many : length l.sets.items ≡ l.number;
  held : RowsHold (λ (t : ℕ) (set : List ℕ). (o : ℕ) → Has set o ↔ Carries l.subject.graph (footprints l.subject.setting) t o) l.sets.items [];
}
