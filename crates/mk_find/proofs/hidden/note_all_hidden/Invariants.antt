use Rattle.std.proofs.Common.{map, drop}
use Rattle.std.specs.List.{flat_map}
use Rattle.mk_find.specs.Candidates.{by_node}
use Rattle.mk_subject.specs.NodeRow.{NodeRow}
use Rattle.mk_find.specs.Findings.{hidden_reads}
use Rattle.mk_find.proofs.Adding.{Leads}
use Rattle.mk_find.proofs.hidden.note_all_hidden.Given as goal

-- the nodes that are left
abbrev pub invariant-loop-entry : goal.invariant-loop-entry
invariant-loop-entry l =
    Leads l.fn.subject (flat_map (hidden_reads l.fn.subject) (drop l.entry-index (map (λ (e : NodeRow). e.number) l.entries))) (by_node l.fn.subject (hidden_reads l.fn.subject)) l.found l.initial.found
