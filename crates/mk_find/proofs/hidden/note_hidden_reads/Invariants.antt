use Rattle.std.proofs.Common.{◌≡◌, drop}
use Rattle.std.specs.List.{flat_map}
use Rattle.mk_subject.specs.Subject.{reads_of}
use Rattle.mk_find.specs.Findings.{hidden_read, hidden_reads}
use Rattle.mk_find.specs.FirstPaths.{AlwaysNoneBefore}
use Rattle.mk_find.proofs.Adding.{Leads}
use Rattle.mk_find.proofs.hidden.note_hidden_reads.Given as goal

-- The search is as it was, the files are left that are judged next, and the places that are passed
-- over for the next file have no recipe that is always made.
abbrev pub invariant-loop-place : goal.invariant-loop-place
invariant-loop-place l =
    (l.search ≡ record { rows = l.tables.rows; start = l.row.number }) ×
    Leads l.tables.subject.now (flat_map (hidden_read l.tables.subject.now l.row.number) (drop l.place (reads_of l.tables.subject.now l.row.number)))
    (hidden_reads l.tables.subject.now l.row.number) l.found l.initial.found ×
    AlwaysNoneBefore l.tables.subject.now l.search.start l.passed
