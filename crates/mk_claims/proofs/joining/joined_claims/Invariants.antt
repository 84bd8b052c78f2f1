use Rattle.std.proofs.Common.{◌≡◌, ◌++◌, drop, filter, map, not}
use Rattle.mk_claims.specs.Claims.{claim_view}
use Rattle.mk_claims.specs.Joining.{is_second, joined_claim}
use Rattle.mk_claims.proofs.joining.joined_claims.Given as goal

-- the claims so far, with those of the claims that are left
abbrev pub invariant-loop-claim : goal.invariant-loop-claim
invariant-loop-claim l =
    map claim_view l.left.items ++ map (joined_claim l.set) (filter (λ c. not (is_second l.set c)) (map claim_view (drop l.claim-index l.claims)))
    ≡ map (joined_claim l.set) (filter (λ c. not (is_second l.set c)) (map claim_view l.claims))
