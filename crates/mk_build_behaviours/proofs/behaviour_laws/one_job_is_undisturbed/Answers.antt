-- Only the recipe that runs writes.
use Rattle.mk_build_behaviours.proofs.OneJob.{one_job_from}
use Rattle.mk_build_behaviours.proofs.behaviour_laws.one_job_is_undisturbed.Goals as goal

pub returns : goal.returns
returns c = λ g s b no_own d steps one legal. one_job_from g s b no_own d steps one legal
