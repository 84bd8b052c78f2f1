-- Each read of what another recipe writes is a candidate.
use Rattle.mk_find.proofs.Sound.{no_race_found}
use Rattle.mk_find.proofs.finding_laws.no_race_found_is_none.Goals as goal

pub returns : goal.returns
returns c = λ x is none. no_race_found x is c.serial_reaches_each_once.ensures c.before_is_decided.ensures none
