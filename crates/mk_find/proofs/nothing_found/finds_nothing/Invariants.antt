use Rattle.std.proofs.Common.{map, drop}
use Rattle.mk_graph.specs.Serial.{serial_order}
use Rattle.mk_subject.specs.NodeRow.{NodeRow}
use Rattle.mk_find.proofs.NothingFound.{Each, FindsNothingOf}
use Rattle.mk_find.proofs.nothing_found.finds_nothing.Given as goal

-- nothing is found of any node where it isn't of those that are left
abbrev pub invariant-loop-entry : goal.invariant-loop-entry
invariant-loop-entry l = Each (FindsNothingOf l.subject) (drop l.entry-index (map (λ (e : NodeRow). e.number) l.entries)) → Each (FindsNothingOf l.subject) (serial_order l.subject.graph)
