use Rattle.std.proofs.Common.{length, ap, ◌∙◌}
use Rattle.mk_world.proofs.FirstDisk.{many_first}
use Rattle.mk_world.proofs.disk.Disk.first.Goals as goal

pub invariant_of-result : goal.invariant_of-result
invariant_of-result c = ap length c.in_ok-files.ensures.files ∙ many_first c.args.setting.now 0 c.args.names
