-- A recipe that ends walked as over clean contents, which are there.
use Rattle.mk_build_behaviours.proofs.Present.{present_is_undisturbed}
use Rattle.mk_build_behaviours.proofs.behaviour_laws.present_makes_are_undisturbed.Goals as goal

pub returns : goal.returns
returns c = λ g s b graph sound no_race ways d coherent present jobs goals steps inside legal. (tt, present_is_undisturbed g s b graph sound no_race ways d coherent present jobs goals legal.0.1 steps inside legal.1)
