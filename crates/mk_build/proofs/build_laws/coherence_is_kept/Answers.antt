-- A coherent disk fits runs, and a disk that fits the runs so far is coherent.
use Rattle.mk_build.proofs.CoherentHistories.{coherence_is_kept}
use Rattle.mk_build.proofs.build_laws.coherence_is_kept.Goals as goal

pub returns : goal.returns
returns c = λ g s graph sound no_race d steps is legal. coherence_is_kept g s graph sound no_race d steps is legal
