use Rattle.std.proofs.Common.{map, drop}
use Rattle.mk_graph.specs.Serial.{serial_order}
use Rattle.mk_find.specs.Candidates.{pairs_of_writers}
use Rattle.mk_subject.specs.NodeRow.{NodeRow}
use Rattle.mk_find.proofs.Adding.{Leads}
use Rattle.mk_find.proofs.pairs.note_pairs.Given as goal

-- the recipes that are left
abbrev pub invariant-loop-entry : goal.invariant-loop-entry
invariant-loop-entry l = Leads l.subject (pairs_of_writers l.subject (drop l.entry-index (map (λ (e : NodeRow). e.number) l.entries))) (pairs_of_writers l.subject (serial_order l.subject.graph)) l.found l.initial.found
