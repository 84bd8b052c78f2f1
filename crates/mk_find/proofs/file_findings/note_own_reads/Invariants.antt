use Rattle.std.proofs.Common.{◌≡◌, IfSome, map, drop}
use Rattle.mk_subject.specs.NodeRow.{row_writes}
use Rattle.mk_find.specs.Candidates.{own_read}
use Rattle.mk_subject.specs.Target.{unsettled_of}
use Rattle.mk_find.proofs.Adding.{Leads}
use Rattle.mk_find.proofs.file_findings.note_own_reads.Given as goal

-- the files that are left, of those that aren't settled
abbrev pub invariant-loop-place : goal.invariant-loop-place
invariant-loop-place l = record {
  leads : Leads l.subject (map (λ f. own_read l.row.number f) (drop l.place (unsettled_of l.subject l.row.number))) (map (λ f. own_read l.row.number f) (unsettled_of l.subject l.row.number)) l.found l.initial.found;
  written : IfSome l.written (λ list. list ≡ row_writes l.row);
}
