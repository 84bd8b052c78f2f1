-- The recipe would be fresh before and after the edit.
use Rattle.mk_build.proofs.CoherentHistories.{edit_not_coherent}
use Rattle.mk_build.proofs.build_laws.hand_edits_are_not_coherent.Goals as goal

pub returns : goal.returns
returns c = λ g s sound d t f c fresh wrote other not_bound late is. edit_not_coherent g s sound d t f c fresh wrote other not_bound late is
