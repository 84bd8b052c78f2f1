use Rattle.std.proofs.Common.{not, ap, ◌∙◌}
use Rattle.mk_lines.proofs.NameSets.{among, inserted}
use Rattle.mk_lines.proofs.borrowed_names.BorrowedNames.insert.Goals as goal

pub returns-clause-new : goal.returns-clause-new
returns-clause-new c = c.in_ok-insert.ensures.added ∙ ap not (among c.self.inside.names.keys c.args.name.now c.args.self.now c.self.view_is)

pub returns-clause-ok : goal.returns-clause-ok
returns-clause-ok c = inserted c.self.inside.names.keys c.args.name c.args.self.now c.insert.new.self.keys c.in_ok-insert.ensures.keys c.self.view_is
