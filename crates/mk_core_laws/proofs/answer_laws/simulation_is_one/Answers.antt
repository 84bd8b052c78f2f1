use Rattle.mk_core_laws.proofs.OneSimulation.{simulation_is_one}
use Rattle.mk_core_laws.proofs.answer_laws.simulation_is_one.Goals as goal

pub returns : goal.returns
returns c = simulation_is_one c.first_world_is_one.ensures c.run_is_one.ensures c.selection_is_one.ensures
