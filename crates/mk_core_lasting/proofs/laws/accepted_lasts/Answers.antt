use Rattle.mk_core_lasting.proofs.Promised.{accepted_lasts}
use Rattle.mk_core_lasting.proofs.laws.accepted_lasts.Goals as goal

pub returns : goal.returns
returns c = accepted_lasts c.verified_lasts.ensures
