-- Of two first paths neither precedes the other.
use Rattle.mk_find.proofs.FirstPaths.{one_first_path}
use Rattle.mk_find.proofs.way_laws.first_path_is_one.Goals as goal

pub returns : goal.returns
returns c = one_first_path c.precedes_is_an_order.ensures
