-- A read has one entry.
use Rattle.mk_find.proofs.EntryLaws as lemmas
use Rattle.mk_find.proofs.way_laws.certificate_is_one.Goals as goal

pub returns : goal.returns
returns c = lemmas.certificate_is_one c.first_path_is_one.ensures
