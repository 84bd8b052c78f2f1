-- Candidates are listed in one way.
use Rattle.mk_find.proofs.FindingLists as lemmas
use Rattle.mk_find.proofs.finding_laws.findings_are_one.Goals as goal

pub returns : goal.returns
returns c = lemmas.findings_are_one c.list_is_one.ensures
