use Rattle.std.proofs.Common.{take, drop}
use Rattle.std.specs.Prelude.{IfSome}
use Rattle.mk_cert.specs.WalkTables.{HoldReads}
use Rattle.mk_cert.proofs.Judged.{JudgedSoFar}
use Rattle.mk_cert.proofs.judging.check_entries.Given as goal

-- the entries so far, and those that are left
abbrev pub invariant-loop-place : goal.invariant-loop-place
invariant-loop-place l = record {
  judged : JudgedSoFar l.subject l.ways (take l.place l.ways) (drop l.place l.ways) l.seen.items;
  lists : IfSome l.finder.lists.lists (λ lists. HoldReads l.subject lists.items);
}
