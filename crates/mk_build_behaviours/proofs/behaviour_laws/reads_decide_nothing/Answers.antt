-- Steps and coherence speak of what recipes write alone.
use Rattle.std.proofs.Common.{[]}
use Rattle.mk_build_behaviours.proofs.Coherence.{other_reads}
use Rattle.mk_build_behaviours.proofs.OtherReads.{legal_with, still_with, leaves_with}
use Rattle.mk_build_behaviours.proofs.behaviour_laws.reads_decide_nothing.Goals as goal

pub returns : goal.returns
returns c = λ g s b footprints. (
  λ d is. other_reads g s b footprints [] d is,
  λ world steps legal. (legal_with g s b footprints world steps legal, leaves_with g s b footprints world steps, λ calm. still_with g s b footprints world steps calm),
)
