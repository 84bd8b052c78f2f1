-- Each entry's path is a way.
use Rattle.std.proofs.Common.{[]}
use Rattle.mk_subject.specs.Subject.{footprints}
use Rattle.mk_cert.proofs.Accepted.{have_ways}
use Rattle.mk_cert.proofs.laws.verified_is_right.Goals as goal

pub returns : goal.returns
returns c = λ x certificate is subject (goals, found, none, lacks).
    let g = x.graph in
    let s = footprints x.setting in
    let stays = c.nothing_found_is_selected.ensures x is subject [] found.0 (λ n chosen h. h) in (
      c.nothing_found_is_right.ensures x is subject found.0 found.1 (have_ways x certificate.ways is c.serial_reaches_each_once.ensures c.names_have_one_number.ensures none lacks),
      c.one_build_is_right.ensures g s is (c.nothing_found_is_sound.ensures x is subject found.0) (c.no_race_found_is_none.ensures x is found.1),
      stays.0,
      stays.1,
    )
