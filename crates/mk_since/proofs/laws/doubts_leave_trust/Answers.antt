use Rattle.mk_since.proofs.Doubting.{doubts_leave_trust}
use Rattle.mk_since.proofs.laws.doubts_leave_trust.Goals as goal

pub returns : goal.returns
returns c = doubts_leave_trust c.before_is_decided.ensures c.names_have_one_number.ensures c.nothing_found_is_sound.ensures c.serial_reaches_each_once.ensures c.ways_are_decided.ensures
