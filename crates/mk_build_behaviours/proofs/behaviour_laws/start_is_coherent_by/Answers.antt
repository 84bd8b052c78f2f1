-- Nothing that recipes write is there, so each recipe must run.
use Rattle.mk_build_behaviours.proofs.Coherence.{start_is_coherent_by}
use Rattle.mk_build_behaviours.proofs.behaviour_laws.start_is_coherent_by.Goals as goal

pub returns : goal.returns
returns c = λ g s b sound d start. start_is_coherent_by g s b sound d start
