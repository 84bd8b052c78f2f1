use Rattle.std.proofs.Common.{◌<◌, ◌≤◌, ap, length, drop, arith}
use Rattle.mk_find.specs.NodeChecks.{candidates_of_check, candidates_of_node}
use Rattle.mk_find.proofs.Adding.{drop_past, leads_each, leads_done}
use Rattle.mk_find.proofs.nothing_found.run_checks_on.Goals as goal

pub loop-check-init : goal.loop-check-init
loop-check-init c = λ last h. h

pub loop-check-preserved : goal.loop-check-preserved
loop-check-preserved c =
    let x = c.args.subject.now in
    let n = c.args.row.now.number in
    let lt : c.loop-check.check-index < length c.args.checks.now = omega arith in
    leads_each x (λ check. candidates_of_check x check n) c.args.checks.now c.loop-check.check-index _ _ c.loop-check.found c.run_check.new.found c.args.found.now lt c.loop-check.invariant c.in_ok-run_check.ensures

pub returns : goal.returns
returns c =
    let x = c.args.subject.now in
    let n = c.args.row.now.number in
    let past : length c.args.checks.now ≤ c.loop-check.check-index = omega arith in
    leads_done x (candidates_of_node x (drop c.loop-check.check-index c.args.checks.now) n) _
    c.loop-check.found c.args.found.now (ap (λ checks. candidates_of_node x checks n)
    (drop_past c.args.checks.now c.loop-check.check-index past)) c.loop-check.invariant
