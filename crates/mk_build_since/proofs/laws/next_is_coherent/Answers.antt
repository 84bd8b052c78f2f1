-- What stays of a finished make is coherent.
use Rattle.mk_build_since.proofs.Carrying.{next_is_coherent}
use Rattle.mk_build_since.proofs.laws.next_is_coherent.Goals as goal

pub returns : goal.returns
returns c = λ old new alike is graph sound first before now coherent present made next. next_is_coherent old new alike is graph sound first before now coherent present made next
