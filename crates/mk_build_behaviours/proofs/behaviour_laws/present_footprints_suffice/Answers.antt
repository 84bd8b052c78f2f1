-- The make follows one of today's world, over outcomes that are true of the clean contents.
use Rattle.mk_build_behaviours.proofs.Present.{present_is_right}
use Rattle.mk_build_behaviours.proofs.behaviour_laws.present_footprints_suffice.Goals as goal

pub returns : goal.returns
returns c = λ g s b graph sound no_race ways d coherent present jobs goals steps inside legal. present_is_right g s b graph sound no_race ways d coherent present jobs goals legal.0.1 steps inside legal.1
