use Rattle.std.proofs.Common.{◌≡◌, drop, map}
use Rattle.mk_repair.specs.Gathering.{with_values}
use Rattle.mk_claims.specs.Claims.{claim_view}
use Rattle.mk_claims.specs.Grouping.{row_key_eq, row_pair, rows}
use Rattle.mk_claims.specs.Tables.{rows_view}
use Rattle.mk_claims.proofs.grouping.rows_of.Given as goal

-- the rows so far, with the claims that are left
abbrev pub invariant-loop-claim : goal.invariant-loop-claim
invariant-loop-claim l = with_values row_key_eq (rows_view l.table.entries) (map row_pair (map claim_view (drop l.claim-index l.claims))) ≡ rows (map claim_view l.claims)
