use Rattle.mk_macros.proofs.Plain.{doubled_back}
use Rattle.mk_macros.proofs.laws.doubled_texts_come_back.Goals as goal

pub returns : goal.returns
returns c = λ table recipe text h. doubled_back 256 (record { table = table; recipe = recipe }) text h
