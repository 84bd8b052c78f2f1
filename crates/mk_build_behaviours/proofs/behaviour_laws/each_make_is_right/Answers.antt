-- The disk is coherent, so present footprints suffice.
use Rattle.std.proofs.Common.{[]}
use Rattle.mk_build_behaviours.proofs.Coherence.{other_reads, left_is_coherent}
use Rattle.mk_build_behaviours.proofs.Present.{present_is_right}
use Rattle.mk_build_behaviours.specs.CoherentBy.{with_reads}
use Rattle.mk_build_behaviours.proofs.behaviour_laws.each_make_is_right.Goals as goal

pub returns : goal.returns
returns c = λ g s b graph writes d now past is legal still leaves footprints sound no_race ways present jobs goals steps inside make.
    present_is_right g (with_reads s footprints) b graph sound no_race ways now (other_reads g s b footprints [] now (left_is_coherent g s b graph writes d now past is legal still leaves)) present jobs goals make.0.1 steps inside make.1
