use Rattle.std.proofs.Common.{◌≡◌, ◌∙◌, [], ap, filter, length, map, refl}
use Rattle.std.proofs.lemmas.Result.{IfOk-weaker}
use Rattle.mk_claims.specs.Claims.{claim_view}
use Rattle.mk_claims.specs.Wider.{is_made, no_names, there_with, unreached_names}
use Rattle.mk_claims.proofs.LedGraphs.{none_left}
use Rattle.mk_claims.proofs.wider.offers_of.Goals as goal

pub returns-then-is_empty : goal.returns-then-is_empty
returns-then-is_empty c =
    let x = c.args.subject.now in
    let claims = map claim_view c.args.claims.now in
    let names = c.as_slice.result.now in
    let none : unreached_names x claims ≡ [] = none_left names (length names) _ c.if-is_empty.ensures refl (c.as_slice.ensures ∙ c.in_ok-unreached.ensures) in
    IfOk-weaker c.offers_alone.result _ _ (λ offers s. (x.graph, no_names (ap (filter (is_made x.makefile (there_with x claims))) none), s)) c.offers_alone.ensures
