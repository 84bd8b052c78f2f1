-- One recipe fewer runs, and what is ready stays so.
use Rattle.mk_build.proofs.BreakingOff.{others_go_on}
use Rattle.mk_build.proofs.build_laws.others_go_on.Goals as goal

pub returns : goal.returns
returns c = λ g s m d t n removed may room ready recipe. others_go_on g s m d t n removed may room ready recipe
