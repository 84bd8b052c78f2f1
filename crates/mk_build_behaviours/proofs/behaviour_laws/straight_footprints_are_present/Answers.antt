-- Each recipe reads its footprint.
use Rattle.mk_build_behaviours.proofs.Straight.{straight_is_present}
use Rattle.mk_build_behaviours.proofs.behaviour_laws.straight_footprints_are_present.Goals as goal

pub returns : goal.returns
returns c = λ g s b write are many d. straight_is_present g s b write are many d
