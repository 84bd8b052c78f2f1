use Rattle.mk_core_laws.proofs.FirstDisk.{first_disk_is_there}
use Rattle.mk_core_laws.proofs.plan_laws.first_disk_is_there.Goals as goal

pub returns : goal.returns
returns c = first_disk_is_there
