use Rattle.std.proofs.Common.{sym, inl, inr}
use Rattle.mk_lines.proofs.NameTests.{Has-from_has_name}
use Rattle.mk_world.proofs.Tables.{first_true}
use Rattle.mk_world.proofs.world.World.edit.Goals as goal

pub write-requires-clause-name : goal.write-requires-clause-name
write-requires-clause-name c = (c.self.invariant.1.all c.args.file.now).1 (inr (inl (Has-from_has_name _ c.args.file.now (first_true _ _ (sym c.if-not-is_editable.ensures)))))
