use Rattle.mk_cert_text.proofs.PlainNames.{names_read_are_plain}
use Rattle.mk_cert_text.proofs.laws.names_read_are_plain.Goals as goal

pub returns : goal.returns
returns c = names_read_are_plain
