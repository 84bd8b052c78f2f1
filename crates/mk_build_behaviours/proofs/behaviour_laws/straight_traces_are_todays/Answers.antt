-- Step by step.
use Rattle.mk_build_behaviours.proofs.Straight.{straight_is_todays}
use Rattle.mk_build_behaviours.proofs.behaviour_laws.straight_traces_are_todays.Goals as goal

pub returns : goal.returns
returns c = λ g s b write are d agree steps within legal. straight_is_todays g s b write are d agree steps within legal
