use Rattle.std.proofs.Common.{◌≡◌, ◌∙◌, ◌≤◌, List, [], ap, sym, drop, length, map}
use Rattle.std.specs.Prelude.{fold}
use Rattle.mk_find.proofs.Adding.{drop_past}
use Rattle.mk_claims.specs.Claims.{Claim, claim_view}
use Rattle.mk_claims.specs.Joining.{has_claim, with_claim}
use Rattle.mk_claims.specs.declared.claim.Claim as borrowed
use Rattle.mk_claims.proofs.ClaimSets.{all_held}
use Rattle.mk_claims.proofs.joining.set_of.Goals as goal

pub returns : goal.returns
returns c = λ other.
    let claims = c.args.claims.now in
    let past : length claims ≤ c.loop-claim.claim-index = c.loop-claim-test.false in
    let done : c.loop-claim.set ≡ fold with_claim [] (map claim_view claims) = sym (ap (λ (rest : List borrowed.Claim). fold with_claim c.loop-claim.set (map claim_view rest)) (drop_past claims c.loop-claim.claim-index past)) ∙ c.loop-claim.invariant in
    ap (λ (set : List Claim). has_claim set other) done ∙ all_held (map claim_view claims) other
