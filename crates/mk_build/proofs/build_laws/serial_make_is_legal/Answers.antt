-- The serial run of the clean build, from the begin of the make to its end.
use Rattle.mk_build.proofs.SerialHistory.{serial_make}
use Rattle.mk_build.proofs.build_laws.serial_make_is_legal.Goals as goal

pub returns : goal.returns
returns c = λ g s outcomes d goals clean is part start has_value room. serial_make g s outcomes d goals clean is part start has_value room
