-- What is known at a step is known at the end.
use Rattle.mk_build_behaviours.proofs.Straight.{todays_is_by}
use Rattle.mk_build_behaviours.proofs.behaviour_laws.todays_traces_are_traces.Goals as goal

pub returns : goal.returns
returns c = λ g s b d steps legal theirs. todays_is_by g s b d steps legal theirs
