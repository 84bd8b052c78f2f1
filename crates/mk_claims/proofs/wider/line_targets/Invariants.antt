use Rattle.std.proofs.Common.{◌≡◌, ◌++◌, drop, map, string_bytes}
use Rattle.mk_claims.specs.Claims.{claim_view}
use Rattle.mk_claims.specs.Wider.{line_targets}
use Rattle.mk_claims.proofs.wider.line_targets.Given as goal

-- the targets so far, with those of the claims that are left
abbrev pub invariant-loop-claim : goal.invariant-loop-claim
invariant-loop-claim l =
    map string_bytes l.targets.items ++ line_targets (map claim_view (drop l.claim-index l.claims))
    ≡ line_targets (map claim_view l.claims)
