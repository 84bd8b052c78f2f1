use Rattle.mk_read_laws.proofs.ListedSuffixes.{suffixes_are_suffixes}
use Rattle.mk_read_laws.proofs.rule_laws.suffixes_are_suffixes.Goals as goal

pub returns : goal.returns
returns c = suffixes_are_suffixes
