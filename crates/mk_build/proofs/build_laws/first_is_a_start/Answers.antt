-- What is there has a place among the given names.
use Rattle.mk_build.proofs.Numbered.{first_start}
use Rattle.mk_build.proofs.build_laws.first_is_a_start.Goals as goal

pub returns : goal.returns
returns c = λ g s d first. first_start g s d first
