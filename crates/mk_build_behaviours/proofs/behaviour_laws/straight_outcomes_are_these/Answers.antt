-- Each recipe reads its footprint.
use Rattle.mk_build_behaviours.proofs.Straight.{are_theirs}
use Rattle.mk_build_behaviours.proofs.behaviour_laws.straight_outcomes_are_these.Goals as goal

pub returns : goal.returns
returns c = λ g s b write are known agree. are_theirs g s b write are known agree
