-- Step by step.
use Rattle.mk_subject.proofs.Paths.{path_is_way, way_is_path}
use Rattle.mk_subject.proofs.laws.paths_are_ways.Goals as goal

pub returns : goal.returns
returns c = λ g s f t. (way_is_path g s f t, λ (finish, others, path). path_is_way g s f finish t others path)
