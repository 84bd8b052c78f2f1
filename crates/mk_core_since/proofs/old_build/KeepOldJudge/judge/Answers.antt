use Rattle.std.proofs.Common.{inr, refl}
use Rattle.mk_core_since.proofs.old_build.KeepOldJudge.judge.Goals as goal

pub returns-clause-answer : goal.returns-clause-answer
returns-clause-answer g c = λ told fits. inr (c.in_ok-found.found, c.in_ok-found.ensures, refl)
