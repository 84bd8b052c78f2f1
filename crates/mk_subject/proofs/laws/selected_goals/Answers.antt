-- Each goal is met, so its number is that of its name.
use Rattle.mk_subject.proofs.SelectedGoals.{goals_named}
use Rattle.mk_subject.proofs.laws.selected_goals.Goals as goal

pub returns : goal.returns
returns c = λ m e goals g selects. goals_named c.meets_what_is_reached.ensures m e goals g selects
