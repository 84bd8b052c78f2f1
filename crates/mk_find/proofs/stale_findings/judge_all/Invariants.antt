use Rattle.std.proofs.Common.{◌≡◌, [], map, drop, take}
use Rattle.std.specs.List.{flat_map}
use Rattle.mk_find.specs.Candidates.{stale, stale_candidates}
use Rattle.mk_subject.specs.NodeRow.{NodeRow}
use Rattle.mk_subject.specs.Subject.{reads_of}
use Rattle.mk_find.specs.Certifying.{AddsEntries, reads_by}
use Rattle.mk_find.proofs.Adding.{Leads}
use Rattle.mk_find.proofs.stale_findings.judge_all.Given as goal

-- the nodes that are left; and where nothing is found, the entries for the reads of those so far
abbrev pub invariant-loop-entry : goal.invariant-loop-entry
invariant-loop-entry l =
    Leads l.fn.subject (flat_map (λ t. map (λ f. stale t f) (reads_of l.fn.subject t)) (drop l.entry-index (map (λ (e : NodeRow). e.number) l.entries))) (stale_candidates l.fn.subject) l.found l.initial.found ×
    (l.found ≡ [] → AddsEntries l.fn.subject (flat_map (reads_by l.fn.subject) (map (λ (e : NodeRow). e.number) (take l.entry-index l.entries))) [] l.ways)
