-- Each recipe stays.
use Rattle.mk_build_since.proofs.Unchanged.{nothing_named}
use Rattle.mk_build_since.proofs.laws.prerequisites_name_nothing.Goals as goal

pub returns : goal.returns
returns c = λ old new setting commands there back no_text f named. nothing_named old new setting commands there back no_text f named
