use Rattle.mk_claims.proofs.HeldClaims.{groups_hold}
use Rattle.mk_claims.proofs.laws.groups_hold_all.Goals as goal

pub returns : goal.returns
returns c = groups_hold
