use Rattle.std.proofs.Common.{map, drop}
use Rattle.std.specs.List.{flat_map}
use Rattle.mk_graph.specs.Serial.{serial_order}
use Rattle.mk_subject.specs.Subject.{writes_of}
use Rattle.mk_find.specs.Candidates.{two_writers}
use Rattle.mk_find.specs.NodeChecks.{behind}
use Rattle.mk_find.proofs.Adding.{Leads}
use Rattle.mk_find.proofs.pairs.note_files.Given as goal

-- the files that are left
abbrev pub invariant-loop-place : goal.invariant-loop-place
invariant-loop-place l = Leads l.subject (flat_map (λ f. map (λ t. two_writers l.row.number t f) (behind l.row.number (serial_order l.subject.graph))) (drop l.place (writes_of l.subject l.row.number)))
    (flat_map (λ f. map (λ t. two_writers l.row.number t f) (behind l.row.number (serial_order l.subject.graph))) (writes_of l.subject l.row.number)) l.found l.initial.found
