use Rattle.std.proofs.Common.{sym, None, arith}
use Rattle.mk_world.proofs.Numbers.{placed_at, unplaced_at}
use Rattle.mk_world.proofs.table.clear.Goals as goal

pub returns-then-place-len-clause-there : goal.returns-then-place-len-clause-there
returns-then-place-len-clause-there g c = sym (unplaced_at g.row.T.Denot c.args.names.now c.args.name.now c.number_of-place.result c.number_of-place.ensures (omega (arith, c.requires))).0

pub returns-clause-there : goal.returns-clause-there
returns-clause-there g c = sym (placed_at g.row.T.Denot c.args.names.now c.args.name.now c.number_of-place.result c.number_of-place.ensures (omega (arith, c.requires))).there

pub returns-clause-noted : goal.returns-clause-noted
returns-clause-noted g c =
    let is = placed_at g.row.T.Denot c.args.names.now c.args.name.now c.number_of-place.result c.number_of-place.ensures (omega (arith, c.requires)) in
    λ i q. is.sets c.args.values.now.items None (omega arith) q i
