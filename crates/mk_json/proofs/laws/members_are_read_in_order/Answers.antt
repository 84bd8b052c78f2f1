use Rattle.mk_json.proofs.Turns.{members_are_read_in_order}
use Rattle.mk_json.proofs.laws.members_are_read_in_order.Goals as goal

pub returns : goal.returns
returns c = members_are_read_in_order
