use Rattle.std.proofs.Common.{◌∙◌, List, map, subst, sym}
use Rattle.std.proofs.lemmas.Result.{IfOk-weaker}
use Rattle.mk_claims.specs.Claims.{Claim, claim_view}
use Rattle.mk_claims.specs.Joining.{JoinsAlike}
use Rattle.mk_claims.proofs.JoinedClaims.{all_alike, any_viewed, none_alike}
use Rattle.mk_claims.proofs.joining.claim_set.Goals as goal

pub returns-then-not-has_race : goal.returns-then-not-has_race
returns-then-not-has_race c =
    let claims = map claim_view c.args.claims.now in
    subst (λ (set : List Claim). JoinsAlike set claims) (sym c.new.ensures) (none_alike claims (sym (any_viewed c.args.claims.now) ∙ (sym c.has_race.ensures ∙ c.if-not-has_race.true)))

pub returns : goal.returns
returns c = IfOk-weaker c.set_of.result _ _ (λ set holds. all_alike set (map claim_view c.args.claims.now) holds) c.set_of.ensures
