-- An edit behind the trace.
use Rattle.mk_build_progress.proofs.Going.{edit_follows}
use Rattle.mk_build_progress.proofs.laws.edits_can_follow.Goals as goal

pub returns : goal.returns
returns c = λ g s d now steps legal e f new editable room. edit_follows g s d now steps legal e f new editable room
