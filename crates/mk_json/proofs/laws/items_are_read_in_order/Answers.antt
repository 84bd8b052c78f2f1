use Rattle.mk_json.proofs.Turns.{items_are_read_in_order}
use Rattle.mk_json.proofs.laws.items_are_read_in_order.Goals as goal

pub returns : goal.returns
returns c = items_are_read_in_order
