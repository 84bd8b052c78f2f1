use Rattle.std.proofs.Common.{◌<◌, ◌≤◌, length, arith}
use Rattle.std.proofs.lemmas.Result.{err_from_is_err_and}
use Rattle.mk_foot.specs.Checks.{shared_lists_exist}
use Rattle.mk_foot.proofs.Steps.{test_passes, test_fails, tests_end}
use Rattle.mk_foot.proofs.checks.groups_are_listed.Goals as goal

pub loop-group-preserved : goal.loop-group-preserved
loop-group-preserved c =
    let lt : c.loop-group.group-index < length c.args.groups.now = omega arith in
    test_passes (shared_lists_exist c.args.names.now) c.args.groups.now c.loop-group.group-index c.group-item.result tt _ c.group-item.is c.in_ok-group_is_listed.ensures c.loop-group.invariant lt

pub returns-in_err-group_is_listed : goal.returns-in_err-group_is_listed
returns-in_err-group_is_listed c =
    let lt : c.loop-group.group-index < length c.args.groups.now = omega arith in
    let p = err_from_is_err_and c.from_residual.result c.from_residual.ensures.1 in
    rw (p.1, p.2) (test_fails (shared_lists_exist c.args.names.now) c.args.groups.now c.loop-group.group-index c.group-item.result _ _ c.group-item.is c.in_err-group_is_listed.ensures c.loop-group.invariant lt)

pub returns : goal.returns
returns c =
    let le : length c.args.groups.now ≤ c.loop-group.group-index = omega arith in
    tests_end (shared_lists_exist c.args.names.now) c.args.groups.now c.loop-group.group-index _ c.loop-group.invariant le
