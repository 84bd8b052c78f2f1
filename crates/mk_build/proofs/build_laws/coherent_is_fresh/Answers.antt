-- What the recipe reads contains what its last run saw.
use Rattle.mk_build.proofs.CoherentHistories.{coherent_is_fresh}
use Rattle.mk_build.proofs.build_laws.coherent_is_fresh.Goals as goal

pub returns : goal.returns
returns c = λ g s sound d is t recipe not_bound late. coherent_is_fresh g s sound d is t recipe not_bound late
