use Rattle.mk_graph.proofs.Parts.{all_goals_suffice}
use Rattle.mk_graph.proofs.schedule_laws.all_goals_suffice.Goals as goal

pub returns : goal.returns
returns c = all_goals_suffice
