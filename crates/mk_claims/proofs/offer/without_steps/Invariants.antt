use Rattle.std.proofs.Common.{◌≡◌, map, take}
use Rattle.mk_claims.specs.Offers.{offer_view, without_step}
use Rattle.mk_claims.proofs.offer.without_steps.Given as goal

-- the offers so far
abbrev pub invariant-loop-offer : goal.invariant-loop-offer
invariant-loop-offer l = map offer_view l.left.items ≡ map (without_step l.names) (map offer_view (take l.offer-index l.offers))
