use Rattle.std.proofs.Common.{map, drop}
use Rattle.mk_find.specs.Candidates.{loose}
use Rattle.mk_find.proofs.Adding.{Leads}
use Rattle.mk_find.proofs.writer_findings.note_loose_writers.Given as goal

-- the writers that are left
abbrev pub invariant-loop-writer : goal.invariant-loop-writer
invariant-loop-writer l = Leads l.subject (map (λ o. loose l.row.number o) (drop l.writer-index l.writers)) (map (λ o. loose l.row.number o) l.writers) l.found l.initial.found
