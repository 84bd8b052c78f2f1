use Rattle.std.proofs.Common.{◌∙◌}
use Rattle.mk_lines.proofs.NameSets.{among}
use Rattle.mk_lines.proofs.borrowed_names.BorrowedNames.contains.Goals as goal

pub returns : goal.returns
returns c = c.contains.ensures ∙ among c.self.inside.names.keys c.args.name.now c.args.self.now c.self.view_is
