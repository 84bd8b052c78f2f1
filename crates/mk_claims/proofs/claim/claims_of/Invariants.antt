use Rattle.std.proofs.Common.{◌≡◌, map, take}
use Rattle.mk_claims.specs.Claims.{claim_of, claim_view}
use Rattle.mk_claims.proofs.claim.claims_of.Given as goal

-- the claims of the findings so far
abbrev pub invariant-loop-finding : goal.invariant-loop-finding
invariant-loop-finding l = map claim_view l.claims.items ≡ map (claim_of l.subject) (take l.finding-index l.findings)
