use Rattle.mk_cert_text.proofs.TextBack.{text_is_read_back}
use Rattle.mk_cert_text.proofs.laws.text_is_read_back.Goals as goal

pub returns : goal.returns
returns c = text_is_read_back
