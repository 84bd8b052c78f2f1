-- What was looked at stays.
use Rattle.mk_build_behaviours.proofs.OneJob.{apart_is_undisturbed}
use Rattle.mk_build_behaviours.proofs.behaviour_laws.apart_is_undisturbed.Goals as goal

pub returns : goal.returns
returns c = λ g s b d steps apart legal. apart_is_undisturbed g s b d steps apart legal
