-- Names differ.
use Rattle.mk_build.proofs.ChainWays.{one_number}
use Rattle.mk_build.proofs.build_laws.names_have_one_number.Goals as goal

pub returns : goal.returns
returns c = λ g sound f n m is_n is_m. one_number g sound f n m is_n is_m
