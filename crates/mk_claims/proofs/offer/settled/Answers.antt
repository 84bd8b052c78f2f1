use Rattle.std.proofs.Common.{◌≡◌, ◌∙◌, ◌<◌, ℕ, List, Option, None, Some, length, map, ap, subst, sym}
use Rattle.mk_graph.specs.Graph.{Graph}
use Rattle.mk_build_needs.specs.NeedsGraph.{IsFirstCycle}
use Rattle.mk_claims.specs.Offers.{Offer, Settles, goes_on, graph_with, offer_view, open_words, stays, without_step}
use Rattle.mk_claims.specs.declared.offer.Offer as borrowed
use Rattle.mk_claims.proofs.OfferCycles.{round_falls}
use Rattle.mk_claims.proofs.offer.settled.Goals as goal

-- the cycle in the graph with these offers, as the code sees them
cycle_of : (g : Graph) (seen offers : List borrowed.Offer) (found cycle : Option (List (List ℕ))) → seen ≡ offers → found ≡ cycle → IsFirstCycle (graph_with g (open_words (map offer_view seen))) found
    → IsFirstCycle (graph_with g (open_words (map offer_view offers))) cycle
cycle_of g seen offers found cycle same is first =
    subst (λ (l : List borrowed.Offer). IsFirstCycle (graph_with g (open_words (map offer_view l))) cycle) same
    (subst (λ (o : Option (List (List ℕ))). IsFirstCycle (graph_with g (open_words (map offer_view seen))) o) is first)

-- the offers after a round
after : (left : List Offer) (names seen_names : List (List ℕ)) (seen offers : List borrowed.Offer) → left ≡ map (without_step seen_names) (map offer_view seen) → seen_names ≡ names → seen ≡ offers
    → left ≡ map (without_step names) (map offer_view offers)
after left names seen_names seen offers e same_names same =
    e ∙ (ap (λ (ns : List (List ℕ)). map (without_step ns) (map offer_view seen)) same_names ∙ ap (λ (l : List borrowed.Offer). map (without_step names) (map offer_view l)) same)

pub loop-offers-smaller : goal.loop-offers-smaller
loop-offers-smaller c =
    let g = c.args.graph.now in
    let old = c.loop-offers.offers.items in
    let offers = map offer_view old in
    let names = c.in-Some.path in
    let first = cycle_of g c.deref.result.now old c.in_ok-path.field-0 (Some names) c.deref.ensures.value c.in-Some.is c.in_ok-path.ensures in
    let next = after _ names c.as_slice.result.now c.deref-in-Some.result.now old c.in_ok-offers-2.ensures c.as_slice.ensures c.deref-in-Some.ensures.value in
    subst (λ (l : List Offer). length (open_words l) < length (open_words offers)) (sym next) (round_falls c.closes_only_cycles.ensures g c.nodes-nodes.ensures.graph offers names first)

pub loop-offers-preserved : goal.loop-offers-preserved
loop-offers-preserved c = λ settled s.
    let g = c.args.graph.now in
    let old = c.loop-offers.offers.items in
    let names = c.in-Some.path in
    let first = cycle_of g c.deref.result.now old c.in_ok-path.field-0 (Some names) c.deref.ensures.value c.in-Some.is c.in_ok-path.ensures in
    let next = after _ names c.as_slice.result.now c.deref-in-Some.result.now old c.in_ok-offers-2.ensures c.as_slice.ensures c.deref-in-Some.ensures.value in
    c.loop-offers.invariant settled (goes_on first (subst (λ (l : List Offer). Settles g l settled) next s))

pub returns : goal.returns
returns c =
    let old = c.loop-offers.offers.items in
    let none = cycle_of c.args.graph.now c.deref.result.now old c.in_ok-path.field-0 None c.deref.ensures.value c.in_default.is c.in_ok-path.ensures in
    c.loop-offers.invariant (map offer_view old) (stays none)
