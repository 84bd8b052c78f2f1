use Rattle.std.proofs.Common.{◌<◌, ◌≤◌, length, arith}
use Rattle.std.proofs.lemmas.Result.{err_from_is_err_and}
use Rattle.mk_foot.specs.Checks.{list_is_plain}
use Rattle.mk_foot.proofs.Steps.{test_passes, test_fails, tests_end}
use Rattle.mk_foot.proofs.checks.lists_are_plain.Goals as goal

pub loop-list-preserved : goal.loop-list-preserved
loop-list-preserved c =
    let lt : c.loop-list.list-index < length c.args.lists.now = omega arith in
    test_passes list_is_plain c.args.lists.now c.loop-list.list-index c.list-item.result tt _ c.list-item.is c.in_ok-list_is_plain.ensures c.loop-list.invariant lt

pub returns-in_err-list_is_plain : goal.returns-in_err-list_is_plain
returns-in_err-list_is_plain c =
    let lt : c.loop-list.list-index < length c.args.lists.now = omega arith in
    let p = err_from_is_err_and c.from_residual.result c.from_residual.ensures.1 in
    rw (p.1, p.2) (test_fails list_is_plain c.args.lists.now c.loop-list.list-index c.list-item.result _ _ c.list-item.is c.in_err-list_is_plain.ensures c.loop-list.invariant lt)

pub returns : goal.returns
returns c =
    let le : length c.args.lists.now ≤ c.loop-list.list-index = omega arith in
    tests_end list_is_plain c.args.lists.now c.loop-list.list-index _ c.loop-list.invariant le
