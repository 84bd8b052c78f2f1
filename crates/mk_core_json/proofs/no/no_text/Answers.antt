use Rattle.std.proofs.Common.{◌≡◌, ◌∙◌, ◌∷◌, ◌++◌, [], ℕ, List, map, ap, refl, string_bytes, subst}
use Rattle.std.proofs.lemmas.Result.{IfOk-weaker}
use Rattle.serde_json.specs.Written.{compact_text}
use Rattle.mk_read.specs.Reading.{Makefile}
use Rattle.mk_claims.specs.Claims.{Claim, claim_view}
use Rattle.mk_claims.specs.Offers.{claim_offered, offer_view}
use Rattle.mk_claims.specs.Shown.{all_claims}
use Rattle.mk_claims.specs.Wider.{AreOffers}
use Rattle.mk_claims.specs.declared.offer.Offer as borrowed
use Rattle.mk_core_json.specs.NoValue.{no_value}
use Rattle.mk_core_json.proofs.no.no_text.Goals as goal

pub returns : goal.returns
returns c =
    let x = c.args.subject.now in
    let found = c.args.found.now in
    let claims : map claim_view c.deref.result.now ≡ all_claims x found c.args.hidden.now = ap (map claim_view) c.deref.ensures.value ∙ c.in_ok-claims.ensures in
    let offers = map offer_view c.in_ok-offers.offers.items in
    let are = subst (λ (cs : List Claim). AreOffers x cs offers) claims c.in_ok-offers.ensures in
    let seen = map claim_view c.deref-3.result.now in
    let shown : seen ≡ map claim_offered offers =
    ap (map claim_view) c.deref-3.ensures.value ∙ (c.in_ok-claims-2.ensures ∙ ap (λ (l : List borrowed.Offer). map claim_offered (map offer_view l)) c.deref-2.ensures.value) in
    let text =
    c.in_ok-text.ensures
    ∙ (ap (λ (m : Makefile). compact_text (no_value m found seen)) c.makefile.ensures ∙ ap (λ (cs : List Claim). compact_text (no_value x.makefile found cs)) shown) in
    IfOk-weaker c.line_of.result _ _ (λ line is. (map claim_offered offers, (offers, are, refl), is ∙ ap (λ (l : List ℕ). l ++ 10 ∷ []) text)) c.line_of.ensures
