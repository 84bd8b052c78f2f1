use Rattle.std.proofs.Common.{◌≡◌, ◌++◌, drop, map}
use Rattle.mk_claims.specs.Offers.{offer_view, open_words, step_view, steps_of}
use Rattle.mk_claims.proofs.offer.steps_of.Given as goal

-- the steps so far, with those of the offers that are left
abbrev pub invariant-loop-offer : goal.invariant-loop-offer
invariant-loop-offer l =
    map step_view l.steps.items ++ steps_of l.graph (open_words (map offer_view (drop l.offer-index l.offers)))
    ≡ steps_of l.graph (open_words (map offer_view l.offers))
