-- Entries are good, and each read has its own.
use Rattle.mk_cert.proofs.OwnCertificate as lemmas
use Rattle.mk_cert.proofs.laws.certificate_is_accepted.Goals as goal

pub returns : goal.returns
returns c = lemmas.certificate_is_accepted c.names_have_one_number.ensures c.serial_reaches_each_once.ensures
