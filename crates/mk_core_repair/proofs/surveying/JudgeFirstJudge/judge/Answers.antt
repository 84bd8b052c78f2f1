use Rattle.std.proofs.Common.{inr, refl}
use Rattle.mk_core_repair.proofs.surveying.JudgeFirstJudge.judge.Goals as goal

pub returns-clause-answer : goal.returns-clause-answer
returns-clause-answer g c = λ told fits. inr (c.in_ok-first.first, c.in_ok-first.ensures, refl)
