use Rattle.mk_infer_laws.proofs.Ending.{new_names_leave_less}
use Rattle.mk_infer_laws.proofs.laws.new_names_leave_less.Goals as goal

pub returns : goal.returns
returns c = new_names_leave_less
