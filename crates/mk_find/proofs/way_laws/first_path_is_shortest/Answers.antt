-- What comes later isn't shorter.
use Rattle.mk_find.proofs.FirstPaths.{none_shorter}
use Rattle.mk_find.proofs.way_laws.first_path_is_shortest.Goals as goal

pub returns : goal.returns
returns c = none_shorter c.precedes_as_read.ensures
