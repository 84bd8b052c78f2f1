-- Step by step.
use Rattle.mk_build_parts.proofs.Following.{parts_alike}
use Rattle.mk_build_parts.proofs.laws.parts_build_alike.Goals as goal

pub returns : goal.returns
returns c = λ h g s is_h is_g part goals_in d steps start legal. parts_alike h g s is_h is_g part goals_in d steps start legal
