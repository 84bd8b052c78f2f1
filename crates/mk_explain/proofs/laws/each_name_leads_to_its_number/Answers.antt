use Rattle.std.proofs.Common.{refl}
use Rattle.std.specs.Fmt.{digits}
use Rattle.mk_explain.specs.Explain.{number_named}
use Rattle.mk_explain.proofs.laws.each_name_leads_to_its_number.Goals as goal

pub returns : goal.returns
unfolding number_named digits
returns c = refl
