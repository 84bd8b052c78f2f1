use Rattle.std.proofs.Common.{map, drop}
use Rattle.mk_find.specs.Candidates.{unknown_read}
use Rattle.mk_subject.specs.Target.{unsettled_of}
use Rattle.mk_find.proofs.Adding.{Leads}
use Rattle.mk_find.proofs.file_findings.note_unknown_reads.Given as goal

-- the files that are left, of those that aren't settled
abbrev pub invariant-loop-place : goal.invariant-loop-place
invariant-loop-place l = Leads l.subject (map (λ f. unknown_read l.row.number f) (drop l.place (unsettled_of l.subject l.row.number))) (map (λ f. unknown_read l.row.number f) (unsettled_of l.subject l.row.number)) l.found l.initial.found
