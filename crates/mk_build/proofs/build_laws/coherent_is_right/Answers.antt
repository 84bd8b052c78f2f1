-- A coherent disk fits runs, and each step keeps the invariant.
use Rattle.mk_build.proofs.CoherentHistories.{coherent_is_right}
use Rattle.mk_build.proofs.build_laws.coherent_is_right.Goals as goal

pub returns : goal.returns
returns c = λ g s graph sound no_race ways d steps is legal. coherent_is_right g s graph sound no_race d steps is legal ways
