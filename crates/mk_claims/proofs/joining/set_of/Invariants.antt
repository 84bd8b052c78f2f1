use Rattle.std.proofs.Common.{◌≡◌, [], drop, map}
use Rattle.std.specs.Prelude.{fold}
use Rattle.mk_claims.specs.Claims.{claim_view}
use Rattle.mk_claims.specs.Joining.{with_claim}
use Rattle.mk_claims.proofs.joining.set_of.Given as goal

-- the claims so far, with those that are left
abbrev pub invariant-loop-claim : goal.invariant-loop-claim
invariant-loop-claim l =
    fold with_claim l.set (map claim_view (drop l.claim-index l.claims))
    ≡ fold with_claim [] (map claim_view l.claims)
