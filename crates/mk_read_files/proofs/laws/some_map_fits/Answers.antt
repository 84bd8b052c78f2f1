use Rattle.mk_read_files.proofs.SomeFits.{some_map_fits}
use Rattle.mk_read_files.proofs.laws.some_map_fits.Goals as goal

pub returns : goal.returns
returns c = some_map_fits
