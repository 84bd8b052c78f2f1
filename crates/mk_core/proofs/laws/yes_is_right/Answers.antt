use Rattle.mk_core.proofs.Promising.{yes_is_right}
use Rattle.mk_core.proofs.laws.yes_is_right.Goals as goal

pub returns : goal.returns
returns c = yes_is_right c.certificate_is_accepted.ensures c.no_findings.ensures c.selected_goals.ensures c.verified_is_right.ensures c.recipes_are_covered.ensures c.accepted_is_selected_anew.ensures
