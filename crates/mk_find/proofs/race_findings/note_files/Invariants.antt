use Rattle.std.proofs.Common.{◌≡◌, map, drop}
use Rattle.std.specs.List.{flat_map}
use Rattle.mk_graph.specs.Serial.{serial_order}
use Rattle.mk_find.specs.Candidates.{race}
use Rattle.mk_subject.specs.Target.{unsettled_of}
use Rattle.mk_find.proofs.Adding.{Leads}
use Rattle.mk_find.proofs.race_findings.note_files.Given as goal

-- the files that are left, of those that aren't settled
abbrev pub invariant-loop-place : goal.invariant-loop-place
invariant-loop-place l = record {
  leads : Leads l.subject (flat_map (λ f. map (λ o. race l.row.number o f) (serial_order l.subject.graph)) (drop l.place (unsettled_of l.subject l.row.number)))
      (flat_map (λ f. map (λ o. race l.row.number o f) (serial_order l.subject.graph)) (unsettled_of l.subject l.row.number)) l.found l.initial.found;
  graph : l.earlier.graph ≡ l.fn.earlier.graph;
}
