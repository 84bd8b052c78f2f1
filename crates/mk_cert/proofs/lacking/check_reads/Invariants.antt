use Rattle.std.proofs.Common.{List, map, drop}
use Rattle.std.specs.List.{flat_map}
use Rattle.mk_cert_text.specs.Certificate.{Way}
use Rattle.mk_subject.specs.NodeRow.{NodeRow}
use Rattle.mk_cert.specs.WalkTables.{AreSeen}
use Rattle.mk_cert.specs.Verdict.{LacksWay}
use Rattle.mk_subject.specs.Reads.{all_reads}
use Rattle.mk_cert.specs.Checks.{reads_by}
use Rattle.mk_find.proofs.FirstOf.{Left}
use Rattle.mk_cert.proofs.lacking.check_reads.Given as goal

-- the recipes that are left
abbrev pub invariant-loop-entry : goal.invariant-loop-entry
invariant-loop-entry l = (ways : List Way) → AreSeen l.subject ways l.seen → Left (LacksWay l.subject ways) (flat_map (reads_by l.subject) (drop l.entry-index (map (λ (e : NodeRow). e.number) l.entries))) (all_reads l.subject)
