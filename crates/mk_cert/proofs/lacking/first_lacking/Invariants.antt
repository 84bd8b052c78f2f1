use Rattle.std.proofs.Common.{List, map, drop}
use Rattle.mk_cert_text.specs.Certificate.{Way}
use Rattle.mk_cert.specs.WalkTables.{AreSeen}
use Rattle.mk_subject.specs.Target.{unsettled_of}
use Rattle.mk_subject.specs.Reads.{Read}
use Rattle.mk_cert.specs.Verdict.{LacksWay}
use Rattle.mk_cert.specs.Checks.{reads_by}
use Rattle.mk_find.proofs.FirstOf.{Left}
use Rattle.mk_cert.proofs.lacking.first_lacking.Given as goal

-- the files that are left, of those that aren't settled
abbrev pub invariant-loop-place : goal.invariant-loop-place
invariant-loop-place l = (ways : List Way) → AreSeen l.subject ways l.seen → Left (LacksWay l.subject ways) (map (λ f. let r : Read = record { recipe = l.row.number; file = f } in r) (drop l.place (unsettled_of l.subject l.row.number))) (reads_by l.subject l.row.number)
