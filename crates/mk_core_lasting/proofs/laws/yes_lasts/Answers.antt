use Rattle.mk_core_lasting.proofs.Promised.{yes_lasts}
use Rattle.mk_core_lasting.proofs.laws.yes_lasts.Goals as goal

pub returns : goal.returns
returns c = yes_lasts c.certificate_is_accepted.ensures c.no_findings.ensures c.verified_lasts.ensures
