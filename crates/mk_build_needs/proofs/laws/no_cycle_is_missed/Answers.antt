use Rattle.mk_build_needs.proofs.Sound.{no_cycle_is_missed}
use Rattle.mk_build_needs.proofs.laws.no_cycle_is_missed.Goals as goal

pub returns : goal.returns
returns c = no_cycle_is_missed c.needs_are_these.ensures c.comes_through_without_cycles.ensures
