use Rattle.mk_macros.proofs.Tables.{put_named}
use Rattle.mk_macros.proofs.table.MacroTable.put.Goals as goal

pub returns-clause-ok : goal.returns-clause-ok
returns-clause-ok c =
    put_named c.args.name.now c.in_ok-key.key c.args.entry c.self.inside.macros.entries c.insert.new.self.entries c.args.self.now c.in_ok-key.ensures.items c.in_ok-insert.ensures.entries c.self.view_is
