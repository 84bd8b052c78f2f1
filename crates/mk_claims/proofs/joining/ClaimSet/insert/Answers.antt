use Rattle.mk_claims.proofs.ClaimSets.{claim_put}
use Rattle.mk_claims.proofs.joining.ClaimSet.insert.Goals as goal

pub returns : goal.returns
returns c = claim_put c.args.claim c.self.inside.claims.keys _ c.args.self.now c.in_ok-insert.ensures.keys c.self.view_is
