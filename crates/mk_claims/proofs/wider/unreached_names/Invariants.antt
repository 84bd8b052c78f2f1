use Rattle.std.proofs.Common.{◌≡◌, drop, map}
use Rattle.std.specs.Prelude.{fold}
use Rattle.std.specs.List.{flat_map}
use Rattle.mk_lines.specs.Names.{with_name}
use Rattle.mk_claims.specs.Claims.{claim_view}
use Rattle.mk_claims.specs.Wider.{unreached_by, unreached_names}
use Rattle.mk_claims.proofs.wider.unreached_names.Given as goal

-- the names so far, with those of the claims that are left
abbrev pub invariant-loop-claim : goal.invariant-loop-claim
invariant-loop-claim l =
    fold with_name l.names (flat_map (unreached_by l.subject) (map claim_view (drop l.claim-index l.claims)))
    ≡ unreached_names l.subject (map claim_view l.claims)
