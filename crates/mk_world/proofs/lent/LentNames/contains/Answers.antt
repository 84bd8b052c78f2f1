use Rattle.std.proofs.Common.{ℕ, sym}
use Rattle.mk_world.proofs.Tables.{placed, unplaced}
use Rattle.mk_world.proofs.lent.LentNames.contains.Goals as goal

pub returns-in-Some : goal.returns-in-Some
returns-in-Some c = sym (placed ℕ c.args.self.now c.args.name.now c.in-Some._place (sym c.in-Some.ensures.place)).there

pub returns-in-None : goal.returns-in-None
returns-in-None c = sym (unplaced ℕ c.args.self.now c.args.name.now (sym c.in-None.ensures.place)).0
