use Rattle.std.proofs.Common.{◌<◌, ◌≤◌, ap, length, drop, arith}
use Rattle.mk_find.specs.Candidates.{by_node}
use Rattle.mk_find.specs.NodeChecks.{candidates_of_check, candidates_of_checks}
use Rattle.mk_find.proofs.Adding.{drop_past, leads_each, leads_done}
use Rattle.mk_find.proofs.static_checks.run_checks_on_all.Goals as goal

pub loop-check-init : goal.loop-check-init
loop-check-init c = λ last h. h

pub loop-check-preserved : goal.loop-check-preserved
loop-check-preserved c =
    let x = c.args.subject.now in
    let lt : c.loop-check.check-index < length c.args.checks.now = omega arith in
    leads_each x (λ check. by_node x (candidates_of_check x check)) c.args.checks.now c.loop-check.check-index _ _ c.loop-check.found c.run_check_on_all.new.found c.args.found.now lt c.loop-check.invariant c.in_ok-run_check_on_all.ensures

pub returns : goal.returns
returns c =
    let x = c.args.subject.now in
    let past : length c.args.checks.now ≤ c.loop-check.check-index = omega arith in
    leads_done x (candidates_of_checks x (drop c.loop-check.check-index c.args.checks.now)) _ c.loop-check.found c.args.found.now (ap (candidates_of_checks x) (drop_past c.args.checks.now c.loop-check.check-index past)) c.loop-check.invariant
