-- What offers come to closes no cycle.
use Rattle.std.proofs.Common.{◌≡◌, ◌∙◌, Bool, true, false, cond, List, [], ◌∷◌, ◌++◌, map, Option, None, refl, sym, ap, subst}
use Rattle.std.specs.Prelude.{option_to_list}
use Rattle.std.specs.Str.{bytes_eq}
use Rattle.mk_build_needs.specs.NeedsGraph.{IsFirstCycle}
use Rattle.mk_graph.specs.Graph.{Graph}
use Rattle.mk_repair.specs.Word.{Word}
use Rattle.mk_claims.specs.Laws.{ShownCloseNoCycle}
use Rattle.mk_claims.specs.Offers.{Offer, Settles, claim_offered, goes_on, graph_with, open_word, open_words, stays, word_of_claim, words_of}

-- the lines that are left close none
left_close_none : {g : Graph} {offers settled : List Offer} → Settles g offers settled → IsFirstCycle (graph_with g (open_words settled)) None
left_close_none (stays none) = none
left_close_none (goes_on first later) = left_close_none later

-- a claim has the line of its offer
same_word : (o : Offer) → word_of_claim (claim_offered o) ≡ open_word o
same_word o = at (bytes_eq o.cycle [])
  where
    at : (b : Bool) → word_of_claim (cond b o.claim (record (o.claim) { topic = record (o.claim.topic) { has_line = false; cycle = o.cycle } })) ≡ cond b (word_of_claim o.claim) None
    at true = refl
    at false = refl

same_words : (offers : List Offer) → words_of (map claim_offered offers) ≡ open_words offers
same_words [] = refl
same_words (o ∷ offers) =
    ap (λ (w : Option Word). option_to_list w ++ words_of (map claim_offered offers)) (same_word o)
    ∙ ap (λ (l : List Word). option_to_list (open_word o) ++ l) (same_words offers)

pub shown_close_none : ShownCloseNoCycle
shown_close_none x claims shown (offers, (g, over, settles), e) =
    (g, over, subst (λ (l : List Word). IsFirstCycle (graph_with g l) None) (sym (ap words_of e ∙ same_words offers)) (left_close_none settles))
