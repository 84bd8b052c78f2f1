-- A node has a recipe, which is run, or it is passed.
use Rattle.std.proofs.Common.{inr, reverse}
use Rattle.mk_build.specs.World.{Busy}
use Rattle.mk_build.specs.Steps.{make_of}
use Rattle.mk_build.proofs.StaleExists.{makes_exist}
use Rattle.mk_build.proofs.build_laws.schedule_history_exists.Goals as goal

pub returns : goal.returns
returns c = λ g s d goals ns. makes_exist g s (λ n. ⊥) (λ n recipe. inr (λ none. none)) (Busy (make_of 1 goals) d) (reverse ns)
