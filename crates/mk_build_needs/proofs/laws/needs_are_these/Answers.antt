use Rattle.mk_build_needs.proofs.Needs.{needs_are_these}
use Rattle.mk_build_needs.proofs.laws.needs_are_these.Goals as goal

pub returns : goal.returns
returns c = needs_are_these c.serial_reaches_each_once.ensures
