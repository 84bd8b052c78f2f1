use Rattle.mk_find.proofs.Selected.{parts_stay, stays_selected}
use Rattle.mk_find.proofs.finding_laws.nothing_found_is_selected.Goals as goal

pub returns : goal.returns
returns c = λ x is subject kept lists none. (
  stays_selected x is subject c.serial_reaches_each_once.ensures c.more_takes_no_choice_away.ensures kept lists none c.graph_stays_selected.ensures,
  parts_stay x is subject c.serial_reaches_each_once.ensures c.more_takes_no_choice_away.ensures kept lists none c.parts_stay_selected.ensures,
)
