use Rattle.std.proofs.Common.{◌∙◌, ap}
use Rattle.std.specs.Prelude.{is_some}
use Rattle.mk_lines.specs.Names.{has_name}
use Rattle.mk_lines.proofs.Places.{is_placed}
use Rattle.mk_lines.proofs.name_table.NameTable.contains.Goals as goal

pub returns : goal.returns
returns c = c.contains.ensures ∙ (ap is_some (c.self.invariant c.args.name.now) ∙ (is_placed 0 _ c.args.name.now ∙ ap (λ names. has_name names c.args.name.now) c.self.view_is))
