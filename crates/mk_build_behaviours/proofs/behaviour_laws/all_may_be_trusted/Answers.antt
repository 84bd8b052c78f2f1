-- Both say the same of each recipe.
use Rattle.mk_build_behaviours.proofs.TrustedTraces.{all_may, none_is_wrong}
use Rattle.mk_build_behaviours.proofs.behaviour_laws.all_may_be_trusted.Goals as goal

pub returns : goal.returns
returns c = λ g s. (all_may g s, none_is_wrong g s)
