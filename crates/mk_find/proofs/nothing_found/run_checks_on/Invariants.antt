use Rattle.std.proofs.Common.{drop}
use Rattle.mk_find.specs.NodeChecks.{candidates_of_node}
use Rattle.mk_find.proofs.Adding.{Leads}
use Rattle.mk_find.proofs.nothing_found.run_checks_on.Given as goal

-- the checks that are left
abbrev pub invariant-loop-check : goal.invariant-loop-check
invariant-loop-check l = Leads l.subject (candidates_of_node l.subject (drop l.check-index l.checks) l.row.number) (candidates_of_node l.subject l.checks l.row.number) l.found l.initial.found
