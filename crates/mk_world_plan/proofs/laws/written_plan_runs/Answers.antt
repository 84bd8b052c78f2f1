-- The run agrees with the history at each line.
use Rattle.mk_world_plan.proofs.Running.{plan_runs}
use Rattle.mk_world_plan.proofs.laws.written_plan_runs.Goals as goal

pub returns : goal.returns
returns c = plan_runs c.allowed_where_all_holds.ensures c.names_have_one_number.ensures c.serial_reaches_each_once.ensures c.can_start_stays.ensures
