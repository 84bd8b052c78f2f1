use Rattle.mk_cert_laws.proofs.Disks as lemmas
use Rattle.mk_cert_laws.proofs.laws.files_are_known.Goals as goal

pub returns : goal.returns
returns c = lemmas.files_are_known
