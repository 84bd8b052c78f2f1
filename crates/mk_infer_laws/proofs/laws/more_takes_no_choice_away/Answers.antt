use Rattle.mk_infer_laws.proofs.Writes.{more_takes_no_choice_away}
use Rattle.mk_infer_laws.proofs.laws.more_takes_no_choice_away.Goals as goal

pub returns : goal.returns
returns c = more_takes_no_choice_away
