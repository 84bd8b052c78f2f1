-- Each step keeps a disk on which other recipes wrote what they left.
use Rattle.mk_build_behaviours.proofs.TrustedTraces.{traces_stay}
use Rattle.mk_build_behaviours.proofs.behaviour_laws.trusted_traces_stay_coherent.Goals as goal

pub returns : goal.returns
returns c = λ g s b trusted graph sound may d now steps is legal present leaves. traces_stay g s b trusted graph sound may d now steps is legal present leaves
