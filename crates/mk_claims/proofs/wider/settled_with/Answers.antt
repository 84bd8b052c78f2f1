use Rattle.std.proofs.Common.{◌∙◌, Ok, Err, map}
use Rattle.std.proofs.lemmas.Result.{IfOk-weaker}
use Rattle.mk_claims.specs.Claims.{claim_view}
use Rattle.mk_claims.specs.Wider.{there_with}
use Rattle.mk_claims.proofs.LedGraphs.{leads_same, none_found}
use Rattle.mk_claims.proofs.wider.settled_with.Goals as goal

pub returns-in-Ok : goal.returns-in-Ok
returns-in-Ok c =
    let x = c.args.subject.now in
    let there = there_with x (map claim_view c.args.claims.now) in
    let g = c.in-Ok.graph in
    let l = leads_same _ x.makefile _ there _ _ (Ok g) c.requires.makefile c.requires.exists (c.as_slice.ensures.value ∙ c.in_ok-goals.ensures) c.in-Ok.ensures in
    (g, l, c.in_ok-offers-in-Ok.ensures)

pub returns : goal.returns
returns c =
    let x = c.args.subject.now in
    let there = there_with x (map claim_view c.args.claims.now) in
    let fault = c.in-Err.fault in
    let l = leads_same _ x.makefile _ there _ _ (Err fault) c.requires.makefile c.requires.exists (c.as_slice.ensures.value ∙ c.in_ok-goals.ensures) c.in-Err.ensures in
    IfOk-weaker c.none_for.result _ _ (λ found none. none_found _ found none.0 (fault, none.1, l)) c.none_for.ensures
