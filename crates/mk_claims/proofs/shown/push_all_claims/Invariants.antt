use Rattle.std.proofs.Common.{◌≡◌, ◌++◌, map, take}
use Rattle.mk_claims.specs.Claims.{claim_view}
use Rattle.mk_claims.proofs.shown.push_all_claims.Given as goal

-- the claims so far
abbrev pub invariant-loop-claim : goal.invariant-loop-claim
invariant-loop-claim l = map claim_view l.claims.items ≡ map claim_view l.initial.claims.items ++ map claim_view (take l.claim-index l.more)
