use Rattle.mk_infer_laws.proofs.PlainNodes.{goals_are_plain}
use Rattle.mk_infer_laws.proofs.name_laws.goals_are_plain.Goals as goal

pub returns : goal.returns
returns c = goals_are_plain
