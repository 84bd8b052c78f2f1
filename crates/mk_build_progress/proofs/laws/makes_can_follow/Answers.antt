-- A make behind the trace.
use Rattle.mk_build_progress.proofs.Going.{make_follows}
use Rattle.mk_build_progress.proofs.laws.makes_can_follow.Goals as goal

pub returns : goal.returns
returns c = λ g s d now steps is start legal e goals spared part room. make_follows g s goals d now steps is start legal e spared part room
