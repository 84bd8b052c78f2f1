use Rattle.std.proofs.Common.{◌≡◌, map, drop}
use Rattle.std.specs.List.{flat_map}
use Rattle.mk_find.specs.Candidates.{race, race_candidates}
use Rattle.mk_subject.specs.NodeRow.{NodeRow}
use Rattle.mk_subject.specs.Subject.{reads_of}
use Rattle.mk_graph.specs.Serial.{serial_order}
use Rattle.mk_find.proofs.Adding.{Leads}
use Rattle.mk_find.proofs.race_findings.note_races.Given as goal

-- the nodes that are left
abbrev pub invariant-loop-entry : goal.invariant-loop-entry
invariant-loop-entry l = record {
  leads : Leads l.subject (flat_map (λ t. flat_map (λ f. map (λ o. race t o f) (serial_order l.subject.graph)) (reads_of l.subject t)) (drop l.entry-index (map (λ (e : NodeRow). e.number) l.entries))) (race_candidates l.subject) l.found l.initial.found;
  graph : l.earlier.graph ≡ l.subject.graph;
}
