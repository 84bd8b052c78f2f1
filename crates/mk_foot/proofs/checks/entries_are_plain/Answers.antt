use Rattle.std.proofs.Common.{◌<◌, ◌≤◌, length, arith}
use Rattle.std.proofs.lemmas.Result.{err_from_is_err_and}
use Rattle.mk_foot.specs.Checks.{entry_is_plain}
use Rattle.mk_foot.proofs.Steps.{test_passes, test_fails, tests_end}
use Rattle.mk_foot.proofs.checks.entries_are_plain.Goals as goal

pub loop-entry-preserved : goal.loop-entry-preserved
loop-entry-preserved c =
    let lt : c.loop-entry.entry-index < length c.args.entries.now = omega arith in
    test_passes entry_is_plain c.args.entries.now c.loop-entry.entry-index c.entry-item.result tt _ c.entry-item.is c.in_ok-entry_is_plain.ensures c.loop-entry.invariant lt

pub returns-in_err-entry_is_plain : goal.returns-in_err-entry_is_plain
returns-in_err-entry_is_plain c =
    let lt : c.loop-entry.entry-index < length c.args.entries.now = omega arith in
    let p = err_from_is_err_and c.from_residual.result c.from_residual.ensures.1 in
    rw (p.1, p.2) (test_fails entry_is_plain c.args.entries.now c.loop-entry.entry-index c.entry-item.result _ _ c.entry-item.is c.in_err-entry_is_plain.ensures c.loop-entry.invariant lt)

pub returns : goal.returns
returns c =
    let le : length c.args.entries.now ≤ c.loop-entry.entry-index = omega arith in
    tests_end entry_is_plain c.args.entries.now c.loop-entry.entry-index _ c.loop-entry.invariant le
