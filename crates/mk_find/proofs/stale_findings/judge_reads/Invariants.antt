use Rattle.std.proofs.Common.{◌≡◌, [], map, drop, take}
use Rattle.mk_subject.specs.Subject.{reads_of}
use Rattle.mk_find.specs.Candidates.{stale}
use Rattle.mk_find.specs.Certifying.{AddsEntries}
use Rattle.mk_find.specs.FirstPaths.{AlwaysNoneBefore}
use Rattle.mk_find.proofs.Adding.{Leads}
use Rattle.mk_find.proofs.AddingEntries.{reads_of_files}
use Rattle.mk_find.proofs.stale_findings.judge_reads.Given as goal

-- The search is as it was, and the files are left that are judged next. Where nothing is found, the
-- entries for the files so far stand. The places that are passed over for the next file have no
-- recipe that is always made.
abbrev pub invariant-loop-place : goal.invariant-loop-place
invariant-loop-place l =
    (l.search ≡ record { rows = l.tables.rows; start = l.row.number }) × Leads l.tables.subject.now (map (λ f. stale l.row.number f) (drop l.place (reads_of l.tables.subject.now l.row.number)))
    (map (λ f. stale l.row.number f) (reads_of l.tables.subject.now l.row.number)) l.found l.initial.found ×
    (l.found ≡ [] → AddsEntries l.tables.subject.now (reads_of_files l.row.number (take l.place (reads_of l.tables.subject.now l.row.number))) l.initial.ways l.ways) ×
    AlwaysNoneBefore l.tables.subject.now l.search.start l.passed
