use Rattle.mk_build_needs.proofs.Extending.{cycle_cannot_be_mended}
use Rattle.mk_build_needs.proofs.laws.cycle_cannot_be_mended.Goals as goal

pub returns : goal.returns
returns c = cycle_cannot_be_mended c.needs_are_these.ensures c.serial_reaches_each_once.ensures c.order_of_all_goals.ensures c.serial_order_is_a_schedule.ensures
