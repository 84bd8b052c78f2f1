use Rattle.std.proofs.Common.{◌≡◌, map, take}
use Rattle.mk_claims.specs.Claims.{claim_view}
use Rattle.mk_claims.specs.Offers.{claim_offered, offer_view}
use Rattle.mk_claims.proofs.offer.claims_offered.Given as goal

-- the claims so far
abbrev pub invariant-loop-offer : goal.invariant-loop-offer
invariant-loop-offer l = map claim_view l.claims.items ≡ map claim_offered (map offer_view (take l.offer-index l.offers))
