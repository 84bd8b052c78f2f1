use Rattle.std.proofs.Common.{◌≡◌, ◌*◌, ◌^◌, ◌≤◌, take, length}
use Rattle.std.specs.Prelude.{filter, sum_by}
use Rattle.mk_subject.specs.NodeRow.{NodeRow}
use Rattle.mk_subject.specs.Subject.{reads_of}
use Rattle.mk_subject.proofs.counting.counts.Given as goal

-- the entries so far
abbrev pub invariant-loop-entry : goal.invariant-loop-entry
invariant-loop-entry l = record {
  recipes : l.recipes ≡ length (filter (λ (e : NodeRow). e.node.recipe) (take l.entry-index l.entry-items));
  few : l.recipes ≤ l.entry-index;
  reads : l.reads ≡ sum_by (λ (e : NodeRow). length (reads_of l.subject e.number)) (take l.entry-index l.entry-items);
  small : l.reads ≤ l.entry-index * 2 ^ 64;
}
