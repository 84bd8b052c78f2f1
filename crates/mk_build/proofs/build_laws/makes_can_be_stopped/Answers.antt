-- A stop behind the history, and a make behind it.
use Rattle.mk_build.proofs.Stopping.{can_be_stopped}
use Rattle.mk_build.proofs.build_laws.makes_can_be_stopped.Goals as goal

pub returns : goal.returns
returns c = λ g s d steps legal none jobs goals some part. can_be_stopped g s d steps legal none jobs goals some part
