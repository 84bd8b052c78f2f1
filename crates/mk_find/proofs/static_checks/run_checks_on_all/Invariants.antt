use Rattle.std.proofs.Common.{drop}
use Rattle.mk_find.specs.NodeChecks.{candidates_of_checks}
use Rattle.mk_find.proofs.Adding.{Leads}
use Rattle.mk_find.proofs.static_checks.run_checks_on_all.Given as goal

-- the checks that are left
abbrev pub invariant-loop-check : goal.invariant-loop-check
invariant-loop-check l = Leads l.subject (candidates_of_checks l.subject (drop l.check-index l.checks)) (candidates_of_checks l.subject l.checks) l.found l.initial.found
