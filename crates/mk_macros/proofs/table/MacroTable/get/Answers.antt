use Rattle.mk_macros.proofs.Tables.{found_lent}
use Rattle.mk_macros.proofs.table.MacroTable.get.Goals as goal

pub returns : goal.returns
returns c = found_lent c.args.name.now c.self.inside.macros.entries c.get.result c.args.self.now c.get.ensures.value c.self.view_is
