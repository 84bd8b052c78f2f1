-- As the step is defined.
use Rattle.std.proofs.Common.{refl}
use Rattle.mk_build.specs.Setting.{name}
use Rattle.mk_build.proofs.BreakingOff.{is_without}
use Rattle.mk_build.proofs.build_laws.recipes_can_break_off.Goals as goal

pub returns : goal.returns
returns c = λ g s m d t runs. (λ wrote. ((runs, wrote), is_without d (name g t)), λ must. ((runs, must), refl))
