-- What is carried was through when the recipe last began.
use Rattle.mk_build.proofs.Histories.{carried_ran_before}
use Rattle.mk_build.proofs.build_laws.carried_ran_before.Goals as goal

pub returns : goal.returns
returns c = λ g s graph sound no_race ways d steps start legal t o recipe may carries. carried_ran_before g s graph sound no_race d steps start legal ways t o recipe may carries
