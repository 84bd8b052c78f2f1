-- No recipe is untrusted.
use Rattle.mk_build_since.proofs.Carrying.{all_trusted, rules_name, named_too}
use Rattle.mk_build_since.proofs.laws.trust_names_no_more.Goals as goal

pub returns : goal.returns
returns c = λ old is. (all_trusted old is, λ new f. (rules_name old new f, named_too old new f))
