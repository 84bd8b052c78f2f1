-- Each step follows one of today's world over footprints without reads.
use Rattle.mk_build_behaviours.proofs.Coherence.{coherence_is_kept}
use Rattle.mk_build_behaviours.proofs.behaviour_laws.coherence_is_kept_by.Goals as goal

pub returns : goal.returns
returns c = λ g s b graph sound d steps is legal still. coherence_is_kept g s b graph sound d steps is legal still
