-- A history of a build with a race.
use Rattle.mk_build_since.proofs.Race.{rules_fall_short}
use Rattle.mk_build_since.proofs.laws.trust_is_needed.Goals as goal

pub returns : goal.returns
returns c = rules_fall_short
