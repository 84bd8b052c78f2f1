use Rattle.mk_cert_text.proofs.Said.{reads_what_is_represented}
use Rattle.mk_cert_text.proofs.laws.reads_what_is_represented.Goals as goal

pub returns : goal.returns
returns c = reads_what_is_represented
