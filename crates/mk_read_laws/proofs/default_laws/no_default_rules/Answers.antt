use Rattle.mk_read_laws.proofs.DefaultRules.{no_default_rules}
use Rattle.mk_read_laws.proofs.default_laws.no_default_rules.Goals as goal

pub returns : goal.returns
returns c = no_default_rules
