use Rattle.mk_since.proofs.Naming.{named_are_named}
use Rattle.mk_since.proofs.laws.named_are_named.Goals as goal

pub returns : goal.returns
returns c = named_are_named c.serial_reaches_each_once.ensures c.all_writes_exactly.ensures c.names_have_one_number.ensures
