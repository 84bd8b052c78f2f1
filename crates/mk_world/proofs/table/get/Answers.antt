use Rattle.std.proofs.Common.{None, sym, ◌∙◌, ltb-true, ltb-false, arith}
use Rattle.mk_world.proofs.Numbers.{placed_at, unplaced_at}
use Rattle.mk_world.proofs.table.get.Goals as goal

pub returns-in-Some : goal.returns-in-Some
returns-in-Some g c =
    let low = ltb-true _ _ (sym c.in-Some.ensures.lookup.0) in
    let is = (placed_at g.row.T.Denot c.args.names.now c.args.name.now c.number_of.result c.number_of.ensures (omega (arith, c.requires, low))).gets c.args.values.now in
    c.in-Some.ensures.lookup.4 (omega arith) None ∙ sym is

pub returns-in-None : goal.returns-in-None
returns-in-None g c =
    let past = ltb-false _ _ (sym c.in-None.ensures.lookup.0) in
    sym ((unplaced_at g.row.T.Denot c.args.names.now c.args.name.now c.number_of.result c.number_of.ensures (omega (arith, c.requires, past))).1 c.args.values.now)
