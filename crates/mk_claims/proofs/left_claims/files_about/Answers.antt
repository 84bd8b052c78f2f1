use Rattle.std.proofs.Common.{◌≡◌, ◌∙◌, ◌≤◌, ℕ, List, [], ap, sym, length, map}
use Rattle.std.specs.Prelude.{fold}
use Rattle.mk_lines.specs.Names.{has_name, with_name}
use Rattle.mk_lines.proofs.NameSets.{all_held}
use Rattle.mk_find.proofs.Adding.{drop_past}
use Rattle.mk_claims.specs.Claims.{claim_view}
use Rattle.mk_claims.specs.declared.claim.Claim as borrowed
use Rattle.mk_claims.specs.Untouched.{file_about}
use Rattle.mk_claims.proofs.left_claims.files_about.Goals as goal

pub returns : goal.returns
returns c = λ name.
    let claims = c.args.claims.now in
    let names = map file_about (map claim_view claims) in
    let past : length claims ≤ c.loop-claim.claim-index = c.loop-claim-test.false in
    let done : c.loop-claim.set ≡ fold with_name [] names = sym (ap (λ (rest : List borrowed.Claim). fold with_name c.loop-claim.set (map file_about (map claim_view rest))) (drop_past claims c.loop-claim.claim-index past)) ∙ c.loop-claim.invariant in
    ap (λ (set : List (List ℕ)). has_name set name) done ∙ all_held names name
