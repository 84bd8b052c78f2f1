use Rattle.std.proofs.Common.{map, drop}
use Rattle.mk_find.specs.Candidates.{two_writers}
use Rattle.mk_find.proofs.Adding.{Leads}
use Rattle.mk_find.proofs.pairs.note_pairs_with.Given as goal

-- the others that are left
abbrev pub invariant-loop-other : goal.invariant-loop-other
invariant-loop-other l = Leads l.subject (map (λ t. two_writers l.row.number t l.file.file) (drop l.other-index l.others)) (map (λ t. two_writers l.row.number t l.file.file) l.others) l.found l.initial.found
