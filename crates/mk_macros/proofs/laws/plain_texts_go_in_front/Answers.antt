use Rattle.mk_macros.proofs.Plain.{plain_in_front}
use Rattle.mk_macros.proofs.laws.plain_texts_go_in_front.Goals as goal

pub returns : goal.returns
returns c = plain_in_front
