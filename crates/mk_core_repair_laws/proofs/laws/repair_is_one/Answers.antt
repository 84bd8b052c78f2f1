use Rattle.mk_core_repair_laws.proofs.OneRepair.{repair_is_one}
use Rattle.mk_core_repair_laws.proofs.laws.repair_is_one.Goals as goal

pub returns : goal.returns
returns c = repair_is_one c.verdict_is_one.ensures c.list_is_one.ensures c.selection_is_one.ensures c.walk_has_one_end.ensures
