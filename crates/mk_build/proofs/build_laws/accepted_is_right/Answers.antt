-- A start disk is coherent, and each history from a coherent disk is right.
use Rattle.mk_build.proofs.CoherentHistories.{start_is_coherent, coherent_is_right}
use Rattle.mk_build.proofs.build_laws.accepted_is_right.Goals as goal

pub returns : goal.returns
returns c = λ g s graph sound no_race ways d steps start legal. coherent_is_right g s graph sound no_race d steps (start_is_coherent g s sound d start) legal ways
