use Rattle.std.proofs.Common.{sym}
use Rattle.mk_world.proofs.Tables.{get_is, unplaced}
use Rattle.mk_world.proofs.lent.get.Goals as goal

pub returns-in-Some : goal.returns-in-Some
returns-in-Some g c = get_is g.row.T.Denot c.args.names.now c.args.values.now c.args.name.now c.in-Some.place _ (sym c.in-Some.ensures.place) c.requires c.in-Some.ensures.within c.index-values-place.is

pub returns-in-None : goal.returns-in-None
returns-in-None g c = sym ((unplaced g.row.T.Denot c.args.names.now c.args.name.now (sym c.in-None.ensures.place)).1 c.args.values.now)
