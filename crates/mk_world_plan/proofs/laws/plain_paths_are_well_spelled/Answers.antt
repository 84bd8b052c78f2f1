-- Plain paths are words.
use Rattle.mk_world_plan.proofs.Spelling.{plain_spelled}
use Rattle.mk_world_plan.proofs.laws.plain_paths_are_well_spelled.Goals as goal

pub returns : goal.returns
returns c = plain_spelled
