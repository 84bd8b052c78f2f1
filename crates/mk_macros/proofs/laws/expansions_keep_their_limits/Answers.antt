use Rattle.mk_macros.proofs.Plain.{expanded_low}
use Rattle.mk_macros.proofs.Counts.{counts_low}
use Rattle.mk_macros.proofs.laws.expansions_keep_their_limits.Goals as goal

pub returns : goal.returns
returns c = λ levels scope going references text found h e. (expanded_low levels scope going references text found e, counts_low levels scope going references text found h e)
