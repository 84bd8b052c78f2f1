use Rattle.mk_cert_laws.proofs.Lines as lemmas
use Rattle.mk_cert_laws.proofs.laws.line_is_read_back.Goals as goal

pub returns : goal.returns
returns c = lemmas.line_is_read_back c.text_is_read_back.ensures
