-- The make follows one in which other recipes write what they leave.
use Rattle.mk_build_behaviours.proofs.TrustedTraces.{files_are_right}
use Rattle.mk_build_behaviours.proofs.behaviour_laws.trusted_files_are_right.Goals as goal

pub returns : goal.returns
returns c = λ g s b trusted graph sound may d is present jobs goals steps inside legal m now leaves ends. files_are_right g s b trusted graph sound may d is present jobs goals steps inside legal m now leaves ends
