use Rattle.std.proofs.Common.{◌≡◌, ◌++◌, drop, map}
use Rattle.mk_claims.specs.Claims.{claim_view}
use Rattle.mk_claims.specs.Untouched.{untouched}
use Rattle.mk_claims.proofs.left_claims.untouched.Given as goal

-- the claims so far, with those of the claims that are left
abbrev pub invariant-loop-claim : goal.invariant-loop-claim
invariant-loop-claim l =
    map claim_view l.left.items ++ untouched (map claim_view l.claims) (map claim_view (drop l.claim-index l.hidden))
    ≡ untouched (map claim_view l.claims) (map claim_view l.hidden)
