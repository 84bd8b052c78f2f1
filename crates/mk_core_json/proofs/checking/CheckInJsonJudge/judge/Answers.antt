use Rattle.std.proofs.Common.{inr, refl}
use Rattle.mk_core_json.proofs.checking.CheckInJsonJudge.judge.Goals as goal

pub returns-clause-answer : goal.returns-clause-answer
returns-clause-answer g c = λ told fits. inr (c.in_ok-shown.shown, c.in_ok-shown.ensures, refl)
