-- An entry has the first path.
use Rattle.mk_find.proofs.EntryLaws as lemmas
use Rattle.mk_find.proofs.way_laws.entries_are_shortest.Goals as goal

pub returns : goal.returns
returns c = lemmas.entries_are_shortest c.first_path_is_shortest.ensures
