use Rattle.mk_since.proofs.Doubting.{doubts_are_these}
use Rattle.mk_since.proofs.laws.doubts_are_these.Goals as goal

pub returns : goal.returns
returns c = doubts_are_these c.before_is_decided.ensures c.listed_exactly.ensures c.names_have_one_number.ensures c.nothing_found_is_sound.ensures c.serial_reaches_each_once.ensures
