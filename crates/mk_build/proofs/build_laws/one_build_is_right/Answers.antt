-- In a first make all recipes run.
use Rattle.mk_build.proofs.OneBuild.{one_build}
use Rattle.mk_build.proofs.build_laws.one_build_is_right.Goals as goal

pub returns : goal.returns
returns c = λ g s graph sound no_race d jobs goals steps start inside legal. one_build g s graph sound no_race d jobs goals steps start inside legal
