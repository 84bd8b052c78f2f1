-- It isn't ready while it is among those that broke off.
use Rattle.mk_build.proofs.BreakingOff.{not_begun_again}
use Rattle.mk_build.proofs.build_laws.broken_is_not_begun_again.Goals as goal

pub returns : goal.returns
returns c = λ g s m d t broke steps inside legal. not_begun_again g s m d t broke steps inside
