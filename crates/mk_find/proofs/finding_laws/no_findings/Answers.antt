-- What is empty has empty parts.
use Rattle.mk_find.proofs.FindingLists as lemmas
use Rattle.mk_find.proofs.finding_laws.no_findings.Goals as goal

pub returns : goal.returns
returns c = lemmas.no_findings
