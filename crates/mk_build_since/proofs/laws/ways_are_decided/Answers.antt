-- A chain leads to recipes that run earlier.
use Rattle.mk_build_since.proofs.WayDeciding.{cases_way}
use Rattle.mk_build_since.proofs.laws.ways_are_decided.Goals as goal

pub returns : goal.returns
returns c = λ g s graph sound t f recipe. cases_way g s graph sound t f recipe
