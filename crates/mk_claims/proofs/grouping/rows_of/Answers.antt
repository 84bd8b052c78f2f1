use Rattle.std.proofs.Common.{◌<◌, length, arith}
use Rattle.mk_claims.proofs.RowSteps.{claim_added}
use Rattle.mk_claims.proofs.SameKeys.{row_added}
use Rattle.mk_claims.proofs.grouping.rows_of.Goals as goal

pub loop-claim-preserved : goal.loop-claim-preserved
loop-claim-preserved c =
    let lt : c.loop-claim.claim-index < length c.args.claims.now = omega arith in
    let added = row_added c.loop-claim.table.entries c.add_value.new.rows.entries c.row_key-key.result c.file_of-file.result c.in_ok-add_value.ensures in
    claim_added c.args.claims.now c.loop-claim.claim-index _ _ _ _ _ _ lt c.row_key-key.ensures c.file_of-file.ensures added c.loop-claim.invariant
