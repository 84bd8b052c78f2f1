-- What stays of trusted recipes after a finished make is coherent.
use Rattle.mk_build_since.proofs.Carrying.{next_is_coherent_trusting}
use Rattle.mk_build_since.proofs.laws.next_is_coherent_trusting.Goals as goal

pub returns : goal.returns
returns c = λ old new trusted alike is graph sound first before now coherent present made next. next_is_coherent_trusting old new trusted alike is graph sound first before now coherent present made next
