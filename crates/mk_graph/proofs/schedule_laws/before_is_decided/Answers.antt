-- What can be done without the one node decides.
use Rattle.mk_graph.proofs.Deciding.{cases_Before}
use Rattle.mk_graph.proofs.schedule_laws.before_is_decided.Goals as goal

pub returns : goal.returns
returns c = λ g o t is. cases_Before g is o t
