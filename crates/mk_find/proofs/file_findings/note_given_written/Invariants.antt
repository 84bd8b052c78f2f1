use Rattle.std.proofs.Common.{map, drop}
use Rattle.mk_subject.specs.Subject.{writes_of}
use Rattle.mk_find.specs.Candidates.{given_written}
use Rattle.mk_find.proofs.Adding.{Leads}
use Rattle.mk_find.proofs.file_findings.note_given_written.Given as goal

-- the files that are left
abbrev pub invariant-loop-place : goal.invariant-loop-place
invariant-loop-place l = Leads l.subject (map (λ f. given_written l.row.number f) (drop l.place (writes_of l.subject l.row.number))) (map (λ f. given_written l.row.number f) (writes_of l.subject l.row.number)) l.found l.initial.found
