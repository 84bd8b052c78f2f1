use Rattle.mk_read_laws.proofs.Makefiles.{makefiles_may_have_the_lines_in_place}
use Rattle.mk_read_laws.proofs.include_laws.makefiles_may_have_the_lines_in_place.Goals as goal

pub returns : goal.returns
returns c = makefiles_may_have_the_lines_in_place
