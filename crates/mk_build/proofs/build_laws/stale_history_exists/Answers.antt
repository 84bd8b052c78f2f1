-- It is decidable of each recipe whether a recipe reaches it by carrying.
use Rattle.mk_build.proofs.StaleExists.{stale_exists}
use Rattle.mk_build.proofs.build_laws.stale_history_exists.Goals as goal

pub returns : goal.returns
returns c = λ g s graph sound t f read d. stale_exists g s graph sound t f read d
