-- What is ready stays so when another recipe begins.
use Rattle.std.proofs.Common.{⊎_elim, arith}
use Rattle.mk_build.proofs.build_laws.ready_recipes_run_together.Goals as goal

pub returns : goal.returns
returns c = λ g s m d a b a_ready b_ready differ a_recipe b_recipe room. ((a_ready, a_recipe, omega arith), (((b_ready.0, λ h. ⊎_elim differ b_ready.1 h, b_ready.2), b_recipe, room), tt))
