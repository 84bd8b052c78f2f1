use Rattle.std.proofs.Common.{◌≡◌, [], drop, map}
use Rattle.std.specs.Prelude.{fold}
use Rattle.mk_lines.specs.Names.{with_name}
use Rattle.mk_claims.specs.Claims.{claim_view}
use Rattle.mk_claims.specs.Untouched.{phony_by}
use Rattle.mk_claims.proofs.left_claims.phonies.Given as goal

-- the targets so far, with those that are left
abbrev pub invariant-loop-claim : goal.invariant-loop-claim
invariant-loop-claim l =
    fold with_name l.set (map phony_by (map claim_view (drop l.claim-index l.claims)))
    ≡ fold with_name [] (map phony_by (map claim_view l.claims))
