-- By both lists at once.
use Rattle.mk_find.proofs.Lists.{one_list}
use Rattle.mk_find.proofs.finding_laws.list_is_one.Goals as goal

pub returns : goal.returns
returns c = λ x all one other a b. one_list x a b
