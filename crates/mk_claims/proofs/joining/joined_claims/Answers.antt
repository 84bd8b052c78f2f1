use Rattle.std.proofs.Common.{◌≡◌, ◌∙◌, ◌≤◌, ◌++◌, List, ap, append-nil, drop, filter, length, map, not, sym}
use Rattle.mk_find.proofs.Adding.{drop_past}
use Rattle.mk_claims.specs.Claims.{claim_view}
use Rattle.mk_claims.specs.Joining.{is_second, joined_claim}
use Rattle.mk_claims.specs.declared.claim.Claim as borrowed
use Rattle.mk_claims.proofs.JoinedClaims.{left_alike}
use Rattle.mk_claims.proofs.joining.joined_claims.Goals as goal

pub returns : goal.returns
returns c =
    let set = c.args.set.now in
    let claims = c.args.claims.now in
    let left = map claim_view c.loop-claim.left.items in
    let past : length claims ≤ c.loop-claim.claim-index = c.loop-claim-test.false in
    sym (append-nil left)
    ∙ (sym (ap (λ (rest : List borrowed.Claim). left ++ map (joined_claim set) (filter (λ d. not (is_second set d)) (map claim_view rest))) (drop_past claims c.loop-claim.claim-index past))
    ∙ (c.loop-claim.invariant ∙ left_alike set (map claim_view claims) (map claim_view claims) c.requires))
