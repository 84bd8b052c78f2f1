-- Nothing that recipes write is there, so each recipe must run.
use Rattle.mk_build.proofs.CoherentHistories.{start_is_coherent}
use Rattle.mk_build.proofs.build_laws.start_is_coherent.Goals as goal

pub returns : goal.returns
returns c = λ g s sound d start. start_is_coherent g s sound d start
