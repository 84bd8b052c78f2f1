-- The disk is coherent, so each trace from it is right.
use Rattle.mk_build_behaviours.proofs.Traces.{present_traces_are_right}
use Rattle.mk_build_since.proofs.Carrying.{next_is_coherent_trusting}
use Rattle.mk_build_since.proofs.laws.next_builds_are_right_trusting.Goals as goal

pub returns : goal.returns
returns c = λ old new trusted alike is is_new first before now coherent present made next steps legal stay.
    present_traces_are_right new.graph new.setting new.behaviours is_new.graph is_new.sound is_new.no_race is_new.ways now (next_is_coherent_trusting old new trusted alike is is_new.graph is_new.sound first before now coherent present made next) steps legal stay
