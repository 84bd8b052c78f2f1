-- One law behind the other.
use Rattle.mk_world_plan.proofs.Readable.{history_runs}
use Rattle.mk_world_plan.proofs.laws.written_history_runs.Goals as goal

pub returns : goal.returns
returns c = history_runs c.text_is_read.ensures c.plain_paths_are_well_spelled.ensures c.legal_steps_are_readable.ensures c.written_plan_runs.ensures
