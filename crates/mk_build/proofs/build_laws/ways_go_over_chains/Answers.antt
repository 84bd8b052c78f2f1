-- One carried recipe after another.
use Rattle.mk_build.proofs.ChainWays.{way_over}
use Rattle.mk_build.proofs.build_laws.ways_go_over_chains.Goals as goal

pub returns : goal.returns
returns c = λ g s t n f chain way. way_over g s t f chain way
