use Rattle.std.proofs.Common.{sym, Some, arith}
use Rattle.mk_world.proofs.Tables.{placed, unplaced}
use Rattle.mk_world.proofs.lent.set.Goals as goal

pub returns-in-Some-clause-there : goal.returns-in-Some-clause-there
returns-in-Some-clause-there g c = sym (placed g.row.T.Denot c.args.names.now c.args.name.now c.in-Some.place (sym c.in-Some.ensures.place)).there

pub returns-in-Some-clause-noted : goal.returns-in-Some-clause-noted
returns-in-Some-clause-noted g c =
    let is = placed g.row.T.Denot c.args.names.now c.args.name.now c.in-Some.place (sym c.in-Some.ensures.place) in
    λ i q. is.sets c.args.values.now.items (Some c.args.value) (omega (arith, c.in-Some.ensures.within, c.requires)) q i

pub returns-in-None-clause-there : goal.returns-in-None-clause-there
returns-in-None-clause-there g c = sym (unplaced g.row.T.Denot c.args.names.now c.args.name.now (sym c.in-None.ensures.place)).0
