use Rattle.mk_build.proofs.BareBuilds.{not_before_is_shown}
use Rattle.mk_build.proofs.build_laws.not_before_is_shown.Goals as goal

pub returns : goal.returns
returns c = not_before_is_shown
