-- An entry has the first path.
use Rattle.mk_find.proofs.EntryLaws as lemmas
use Rattle.mk_find.proofs.way_laws.certificate_is_shortest.Goals as goal

pub returns : goal.returns
returns c = lemmas.certificate_is_shortest c.names_have_one_number.ensures c.entries_are_shortest.ensures
