use Rattle.std.proofs.Common.{◌≡◌, map, drop}
use Rattle.mk_find.specs.Candidates.{race}
use Rattle.mk_find.proofs.Adding.{Leads}
use Rattle.mk_find.proofs.race_findings.note_races_with.Given as goal

-- the writers that are left
abbrev pub invariant-loop-writer : goal.invariant-loop-writer
invariant-loop-writer l = record {
  leads : Leads l.read.subject.now (map (λ o. race l.read.row.now.number o l.read.file.file) (drop l.writer-index l.writers)) (map (λ o. race l.read.row.now.number o l.read.file.file) l.writers) l.found l.initial.found;
  same : l.earlier ≡ l.fn.earlier;
}
