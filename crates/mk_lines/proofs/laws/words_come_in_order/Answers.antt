use Rattle.mk_lines.proofs.WordOrder.{words_come_in_order}
use Rattle.mk_lines.proofs.laws.words_come_in_order.Goals as goal

pub returns : goal.returns
returns c = words_come_in_order
