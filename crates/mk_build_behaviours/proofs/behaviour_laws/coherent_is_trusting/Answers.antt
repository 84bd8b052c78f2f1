-- Other recipes left what their files hold.
use Rattle.mk_build_behaviours.proofs.TrustedTraces.{coherent_is_trusting}
use Rattle.mk_build_behaviours.proofs.behaviour_laws.coherent_is_trusting.Goals as goal

pub returns : goal.returns
returns c = λ g s b trusted graph sound d is. coherent_is_trusting g s b trusted d is
