-- Recipe by recipe, nothing is known of one before its first run.
use Rattle.mk_build.proofs.TurnLists.{turn_list_runs}
use Rattle.mk_build.proofs.build_laws.schedules_run.Goals as goal

pub returns : goal.returns
returns c = λ g s d goals ns t steps start part turns may recipe room makes. turn_list_runs g s d goals ns t steps start part turns may recipe room makes
