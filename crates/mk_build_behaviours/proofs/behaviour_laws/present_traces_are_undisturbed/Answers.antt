-- A recipe that ends walked as over clean contents, which are there.
use Rattle.mk_build_behaviours.proofs.Traces.{present_traces_are_undisturbed}
use Rattle.mk_build_behaviours.proofs.behaviour_laws.present_traces_are_undisturbed.Goals as goal

pub returns : goal.returns
returns c = λ g s b graph sound no_race ways d steps coherent legal present. present_traces_are_undisturbed g s b graph sound no_race ways d coherent steps legal present
