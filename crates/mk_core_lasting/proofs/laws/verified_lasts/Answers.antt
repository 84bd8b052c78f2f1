-- The build is sound, has no race, and has its ways.
use Rattle.mk_subject.specs.Subject.{footprints}
use Rattle.mk_cert.proofs.Accepted.{have_ways}
use Rattle.mk_core_lasting.proofs.Verified.{lasting}
use Rattle.mk_core_lasting.proofs.laws.verified_lasts.Goals as goal

pub returns : goal.returns
returns c = λ x certificate is subject (goals, found, none, lacks).
    lasting c.start_is_coherent_by.ensures c.coherence_is_kept_by.ensures c.present_footprints_suffice.ensures c.present_makes_are_undisturbed.ensures x.graph (footprints x.setting) is (c.nothing_found_is_sound.ensures x is subject found.0) (c.no_race_found_is_none.ensures x is found.1) (have_ways x certificate.ways is c.serial_reaches_each_once.ensures c.names_have_one_number.ensures none lacks)
