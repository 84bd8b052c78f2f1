-- Each make follows one of today's world.
use Rattle.mk_build_behaviours.proofs.Traces.{present_traces_are_right}
use Rattle.mk_build_behaviours.proofs.behaviour_laws.present_traces_are_right.Goals as goal

pub returns : goal.returns
returns c = λ g s b graph sound no_race ways d steps coherent legal present. present_traces_are_right g s b graph sound no_race ways d coherent steps legal present
