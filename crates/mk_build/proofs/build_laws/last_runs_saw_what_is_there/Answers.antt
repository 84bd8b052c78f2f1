-- Each step of a legal history keeps what last runs saw, or writes it anew.
use Rattle.mk_build.proofs.Histories.{last_runs_saw}
use Rattle.mk_build.proofs.build_laws.last_runs_saw_what_is_there.Goals as goal

pub returns : goal.returns
returns c = λ g s graph sound no_race d steps start legal t run is_last f read. last_runs_saw g s graph sound no_race d steps start legal t run is_last f read
