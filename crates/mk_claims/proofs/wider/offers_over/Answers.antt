use Rattle.std.proofs.Common.{◌≡◌, ◌∙◌, ℕ, List, ap, arith, length, map, subst}
use Rattle.std.specs.Vec.{vec_len}
use Rattle.std.proofs.lemmas.Option.{MatchOption-at_none, MatchOption-at_some}
use Rattle.std.proofs.lemmas.Result.{IfOk-weaker}
use Rattle.mk_repair.specs.Rows.{names_view}
use Rattle.mk_claims.specs.Claims.{claim_view}
use Rattle.mk_claims.specs.Offers.{offer_view}
use Rattle.mk_claims.specs.Wider.{AreOver, LeadsNowhere, alone, far_names, no_names, with_names, with_targets}
use Rattle.mk_claims.proofs.LedGraphs.{far_are, none_left, targets_are}
use Rattle.mk_claims.proofs.wider.offers_over.Goals as goal

pub returns-then-is_empty : goal.returns-then-is_empty
returns-then-is_empty c =
    let x = c.args.subject.now in
    let claims = map claim_view c.args.claims.now in
    let made = c.in_ok-made.made in
    let are = far_are x claims _ _ _ _ c.requires.makefile c.requires.exists c.requires.names c.in_ok-made.ensures in
    let many : length made.items ≡ vec_len made = let ok = made.ok.0 in omega (arith, ok) in
    let none = none_left made.items (vec_len made) (far_names x claims) c.if-is_empty.ensures many are in
    IfOk-weaker c.offers_alone.result _ _ (λ offers s. (x.graph, no_names none, s)) c.offers_alone.ensures

pub returns-in-Some : goal.returns-in-Some
returns-in-Some c =
    let x = c.args.subject.now in
    let claims = map claim_view c.args.claims.now in
    let offers = c.in-Some.offers in
    let are = far_are x claims _ _ _ _ c.requires.makefile c.requires.exists c.requires.names c.in_ok-made.ensures in
    let over = MatchOption-at_some _ _ offers c.in-Some.is c.in_ok-offers.ensures in
    let led = subst (λ (names : List (List ℕ)). AreOver x names claims (map offer_view offers.items)) (ap names_view c.deref.ensures.value ∙ are) over in
    (led.0, with_names led.0 led.1, led.2)

pub returns-in-Some-2 : goal.returns-in-Some-2
returns-in-Some-2 c =
    let x = c.args.subject.now in
    let claims = map claim_view c.args.claims.now in
    let are = far_are x claims _ _ _ _ c.requires.makefile c.requires.exists c.requires.names c.in_ok-made.ensures in
    let nowhere = subst (LeadsNowhere x claims) (ap names_view c.deref.ensures.value ∙ are) (MatchOption-at_none _ _ c.in_default.is c.in_ok-offers.ensures) in
    let targets = ap names_view c.deref-2.ensures.value ∙ targets_are x claims _ _ _ (c.table.ensures ∙ c.requires.makefile) c.requires.names c.in_ok-targets.ensures in
    let offers = c.in-Some-2.offers in
    let over = MatchOption-at_some _ _ offers c.in-Some-2.is c.in_ok-offers-2.ensures in
    let led = subst (λ (names : List (List ℕ)). AreOver x names claims (map offer_view offers.items)) targets over in
    (led.0, with_targets led.0 nowhere led.1, led.2)

pub returns : goal.returns
returns c =
    let x = c.args.subject.now in
    let claims = map claim_view c.args.claims.now in
    let are = far_are x claims _ _ _ _ c.requires.makefile c.requires.exists c.requires.names c.in_ok-made.ensures in
    let nowhere = subst (LeadsNowhere x claims) (ap names_view c.deref.ensures.value ∙ are) (MatchOption-at_none _ _ c.in_default.is c.in_ok-offers.ensures) in
    let targets = ap names_view c.deref-2.ensures.value ∙ targets_are x claims _ _ _ (c.table.ensures ∙ c.requires.makefile) c.requires.names c.in_ok-targets.ensures in
    let none = subst (LeadsNowhere x claims) targets (MatchOption-at_none _ _ c.in_default-2.is c.in_ok-offers-2.ensures) in
    IfOk-weaker c.offers_alone-2.result _ _ (λ offers s. (x.graph, alone nowhere none, s)) c.offers_alone-2.ensures
