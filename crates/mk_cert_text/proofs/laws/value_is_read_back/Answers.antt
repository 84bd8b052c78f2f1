use Rattle.mk_cert_text.proofs.ValueBack.{value_is_read_back}
use Rattle.mk_cert_text.proofs.laws.value_is_read_back.Goals as goal

pub returns : goal.returns
returns c = value_is_read_back
