use Rattle.std.proofs.Common.{◌≡◌, ◌∙◌, ◌++◌, ℕ, List, map, ap, refl, subst, Vec, Global}
use Rattle.mk_claims.specs.Claims.{Claim, claim_view}
use Rattle.mk_claims.specs.Offers.{claim_offered, offer_view}
use Rattle.mk_claims.specs.Wider.{AreOffers}
use Rattle.mk_claims.specs.Shown.{all_claims}
use Rattle.mk_sentences.specs.Text.{all_text}
use Rattle.mk_read.specs.Reading.{Makefile}
use Rattle.mk_claims.specs.declared.offer.Offer as borrowed
use Rattle.mk_sentences.proofs.rendering.sentences.Goals as goal

pub returns : goal.returns
returns c =
    let x = c.args.subject.now in
    let found = c.args.findings.now in
    let claims : map claim_view c.deref.result.now ≡ all_claims x found c.args.hidden.now = ap (map claim_view) c.deref.ensures.value ∙ c.in_ok-claims.ensures in
    let offers = map offer_view c.in_ok-offers.offers.items in
    let are = subst (λ (cs : List Claim). AreOffers x cs offers) claims c.in_ok-offers.ensures in
    let seen = map claim_view c.deref-3.result.now in
    let shown : seen ≡ map claim_offered offers =
    ap (map claim_view) c.deref-3.ensures.value ∙ (c.in_ok-claims-2.ensures ∙ ap (λ (l : List borrowed.Offer). map claim_offered (map offer_view l)) c.deref-2.ensures.value) in
    let text =
    ap (λ (v : Vec ℕ Global). v.items) c.into_bytes.ensures.value
    ∙ (c.in_ok-push_all.ensures
    ∙ (ap (λ (o : List ℕ). o ++ all_text c.makefile.result.now found seen) c.new-out.ensures.bytes
    ∙ (ap (λ (m : Makefile). all_text m found seen) c.makefile.ensures ∙ ap (λ (cs : List Claim). all_text x.makefile found cs) shown))) in
    (map claim_offered offers, (offers, are, refl), text)
