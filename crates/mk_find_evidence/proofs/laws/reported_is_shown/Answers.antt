use Rattle.mk_find_evidence.proofs.Shown.{shown}
use Rattle.mk_find_evidence.proofs.laws.reported_is_shown.Goals as goal

pub returns : goal.returns
returns c = λ x finding is is_subject told of room d first.
    shown c.listed_exactly.ensures c.nothing_found_is_sound.ensures c.first_is_a_start.ensures
    c.not_before_is_shown.ensures c.schedules_run.ensures c.can_start_stays.ensures
    c.serial_reaches_each_once.ensures c.stale_history_exists.ensures c.stale_is_shown.ensures
    c.order_of_all_goals.ensures x is is_subject room d first finding told of
