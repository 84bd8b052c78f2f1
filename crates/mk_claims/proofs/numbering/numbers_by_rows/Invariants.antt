use Rattle.std.proofs.Common.{◌≡◌, List, map, take}
use Rattle.mk_claims.specs.Claims.{claim_view}
use Rattle.mk_claims.specs.Grouping.{Group}
use Rattle.mk_claims.specs.Joining.{joined_claim}
use Rattle.mk_claims.specs.Numbering.{group_number, row_number}
use Rattle.mk_claims.specs.Tables.{rows_view}
use Rattle.mk_claims.proofs.numbering.numbers_by_rows.Given as goal

-- the numbers so far
abbrev pub invariant-loop-claim : goal.invariant-loop-claim
invariant-loop-claim l =
    (groups : List Group) → l.numbers ≡ map (row_number groups) (rows_view l.rows.entries)
    → l.found.items ≡ map (λ c. group_number (rows_view l.rows.entries) groups (joined_claim l.set c)) (map claim_view (take l.claim-index l.claims))
