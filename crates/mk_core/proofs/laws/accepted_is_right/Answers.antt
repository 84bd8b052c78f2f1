use Rattle.mk_core.proofs.Promising.{accepted_is_right}
use Rattle.mk_core.proofs.laws.accepted_is_right.Goals as goal

pub returns : goal.returns
returns c = accepted_is_right c.selected_goals.ensures c.verified_is_right.ensures c.recipes_are_covered.ensures c.accepted_is_selected_anew.ensures
