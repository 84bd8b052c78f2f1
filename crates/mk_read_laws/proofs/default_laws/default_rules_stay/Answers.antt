use Rattle.mk_read_laws.proofs.DefaultRules.{default_rules_stay}
use Rattle.mk_read_laws.proofs.default_laws.default_rules_stay.Goals as goal

pub returns : goal.returns
returns c = default_rules_stay
