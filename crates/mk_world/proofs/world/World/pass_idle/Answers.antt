use Rattle.std.proofs.Common.{rules}
use Rattle.mk_world.proofs.world.World.pass_idle.Goals as goal

pub returns : goal.returns
returns c =
    let ok = c.pass_idle.ensures.ok c.self.inside.disk in
    let some = c.pass_idle.ensures.some c.self.inside.disk in
    search rules
