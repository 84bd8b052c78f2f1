use Rattle.mk_build_needs.proofs.Extending.{amended_extends}
use Rattle.mk_build_needs.proofs.laws.amended_extends.Goals as goal

pub returns : goal.returns
returns c = amended_extends
