use Rattle.std.proofs.Common.{◌≡◌, [], drop, fold, map}
use Rattle.mk_repair.specs.Word.{with_word}
use Rattle.mk_claims.specs.Offers.{offer_view, open_words}
use Rattle.mk_core_repair.proofs.stuck.words_in.Given as goal

-- the words so far, with those of the offers that are left
abbrev pub invariant-loop-offer : goal.invariant-loop-offer
invariant-loop-offer l =
    fold with_word l.words (open_words (map offer_view (drop l.offer-index l.offers)))
    ≡ fold with_word [] (open_words (map offer_view l.offers))
