use Rattle.mk_world.proofs.RunsAgree.{runs_agree}
use Rattle.mk_world.proofs.laws.whole_runs_agree.Goals as goal

pub returns : goal.returns
returns c = runs_agree
