use Rattle.std.proofs.Common.{◌≡◌, ◌*◌, ◌^◌, ◌≤◌, take, length}
use Rattle.std.specs.Prelude.{sum_by}
use Rattle.mk_subject.specs.NodeRow.{NodeRow, row_writes}
use Rattle.mk_find_evidence.proofs.bound.writings.Given as goal

-- the entries so far
abbrev pub invariant-loop-entry : goal.invariant-loop-entry
invariant-loop-entry l = record {
  writings : l.writings ≡ sum_by (λ (e : NodeRow). length (row_writes e)) (take l.entry-index l.entry-items);
  small : l.writings ≤ l.entry-index * 2 ^ 64;
}
