-- Sound footprints without races, and ways.
use Rattle.mk_subject.specs.Subject.{footprints}
use Rattle.mk_find.proofs.finding_laws.nothing_found_is_right.Goals as goal

pub returns : goal.returns
returns c = λ x is subject static_none race_none ways. c.accepted_is_right.ensures x.graph (footprints x.setting) is (c.nothing_found_is_sound.ensures x is subject static_none) (c.no_race_found_is_none.ensures x is race_none) ways
