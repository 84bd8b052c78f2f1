-- No recipe has run on a start disk.
use Rattle.mk_build_behaviours.proofs.Serial.{start_is_serial}
use Rattle.mk_build_behaviours.proofs.behaviour_laws.start_is_serial_by.Goals as goal

pub returns : goal.returns
returns c = λ g s b sound d start. start_is_serial g s b sound d start
