use Rattle.mk_macros.proofs.Plain.{plain_stays}
use Rattle.mk_macros.proofs.laws.plain_texts_stay.Goals as goal

pub returns : goal.returns
returns c = plain_stays
