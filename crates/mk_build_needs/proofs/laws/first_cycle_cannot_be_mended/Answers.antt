use Rattle.mk_build_needs.proofs.Extending.{first_cycle_cannot_be_mended}
use Rattle.mk_build_needs.proofs.laws.first_cycle_cannot_be_mended.Goals as goal

pub returns : goal.returns
returns c = first_cycle_cannot_be_mended c.cycle_cannot_be_mended.ensures c.closes_only_cycles.ensures
