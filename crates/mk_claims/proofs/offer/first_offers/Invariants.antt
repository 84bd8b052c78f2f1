use Rattle.std.proofs.Common.{◌≡◌, map, take}
use Rattle.mk_claims.specs.Claims.{claim_view}
use Rattle.mk_claims.specs.Offers.{offer_of, offer_view}
use Rattle.mk_claims.proofs.offer.first_offers.Given as goal

-- the offers so far
abbrev pub invariant-loop-claim : goal.invariant-loop-claim
invariant-loop-claim l = map offer_view l.offers.items ≡ map offer_of (map claim_view (take l.claim-index l.claims))
