-- Each finding is a candidate.
use Rattle.mk_find.proofs.Sound.{footprints_are_sound}
use Rattle.mk_find.proofs.finding_laws.nothing_found_is_sound.Goals as goal

pub returns : goal.returns
returns c = λ x is subject none. footprints_are_sound x is subject c.serial_reaches_each_once.ensures none
