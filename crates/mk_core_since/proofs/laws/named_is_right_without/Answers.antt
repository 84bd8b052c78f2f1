use Rattle.mk_core_since.proofs.Right.{named_is_right_without}
use Rattle.mk_core_since.proofs.laws.named_is_right_without.Goals as goal

pub returns : goal.returns
returns c = named_is_right_without c.certificate_is_accepted.ensures c.no_findings.ensures c.nothing_found_is_sound.ensures c.no_race_found_is_none.ensures c.serial_reaches_each_once.ensures c.names_have_one_number.ensures c.doubts_leave_trust.ensures c.named_are_named.ensures c.next_builds_are_right_trusting.ensures
