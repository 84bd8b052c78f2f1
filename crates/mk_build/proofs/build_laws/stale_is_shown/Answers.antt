-- The two makes and the edit, one behind the other.
use Rattle.std.proofs.Common.{arith}
use Rattle.mk_build.proofs.StaleHistory.{shown}
use Rattle.mk_build.proofs.build_laws.stale_is_shown.Goals as goal

pub returns : goal.returns
returns c = λ g s graph sound t f read can no_way d start room first edit second shows. shown g s graph sound t f read can no_way d first edit second start (omega arith) shows
