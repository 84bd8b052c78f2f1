use Rattle.std.proofs.Common.{List, length, map}
use Rattle.mk_claims.specs.Claims.{claim_view}
use Rattle.mk_claims.specs.Offers.{Offer, Settles, offer_of, offer_view, open_words}
use Rattle.mk_claims.proofs.offer.settled.Given as goal

-- what these offers come to is what the first ones come to
abbrev pub invariant-loop-offers : goal.invariant-loop-offers
invariant-loop-offers l =
    (settled : List Offer) → Settles l.graph (map offer_view l.offers.items) settled → Settles l.graph (map offer_of (map claim_view l.claims)) settled

-- each round takes a line back
abbrev pub decreases-loop-offers : goal.decreases-loop-offers
decreases-loop-offers l = length (open_words (map offer_view l.offers.items))
