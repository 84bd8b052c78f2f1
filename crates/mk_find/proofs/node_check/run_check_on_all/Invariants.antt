use Rattle.std.proofs.Common.{map, drop}
use Rattle.std.specs.List.{flat_map}
use Rattle.mk_find.specs.Candidates.{by_node}
use Rattle.mk_subject.specs.NodeRow.{NodeRow}
use Rattle.mk_find.specs.NodeChecks.{candidates_of_check}
use Rattle.mk_find.proofs.Adding.{Leads}
use Rattle.mk_find.proofs.node_check.run_check_on_all.Given as goal

-- the nodes that are left
abbrev pub invariant-loop-entry : goal.invariant-loop-entry
invariant-loop-entry l = Leads l.subject (flat_map (candidates_of_check l.subject l.check) (drop l.entry-index (map (λ (e : NodeRow). e.number) l.entries))) (by_node l.subject (candidates_of_check l.subject l.check)) l.found l.initial.found
