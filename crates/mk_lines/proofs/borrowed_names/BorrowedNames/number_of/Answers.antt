use Rattle.std.proofs.Common.{sym, ap, ◌∙◌}
use Rattle.mk_lines.specs.Names.{number_of}
use Rattle.mk_lines.proofs.NameSets.{number_found, number_missing}
use Rattle.mk_lines.proofs.borrowed_names.BorrowedNames.number_of.Goals as goal

pub returns-in-Some : goal.returns-in-Some
returns-in-Some c = number_found c.self.inside.names.keys c.args.name.now c.in-Some.number (sym c.in-Some.ensures.index) ∙ ap (λ names. number_of names c.args.name.now) c.self.view_is

pub returns-in-None : goal.returns-in-None
returns-in-None c = c.len.ensures.len ∙ (number_missing c.self.inside.names.keys c.args.name.now (sym c.in-None.ensures.index) ∙ ap (λ names. number_of names c.args.name.now) c.self.view_is)
