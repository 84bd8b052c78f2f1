-- Each recipe is bound to run if it was, or is as it was left.
use Rattle.mk_build_since.proofs.Adding.{added_is_coherent}
use Rattle.mk_build_since.proofs.laws.added_prerequisites_keep_coherence.Goals as goal

pub returns : goal.returns
returns c = λ g h s b adds d is. added_is_coherent g h s b adds d is
