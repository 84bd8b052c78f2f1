use Rattle.std.proofs.Common.{◌<◌, length, arith}
use Rattle.mk_world_plan.proofs.Sets.{one_lent}
use Rattle.mk_world_plan.proofs.tables.set_of.Goals as goal

pub loop-name-preserved : goal.loop-name-preserved
loop-name-preserved c = λ name.
    let lt : c.loop-name.name-index < length c.args.names.now = omega arith in
    one_lent c.args.names.now c.loop-name.name-index _ c.loop-name.set c.insert.new.self name lt (c.loop-name.invariant name) c.in_ok-insert.ensures.ok
