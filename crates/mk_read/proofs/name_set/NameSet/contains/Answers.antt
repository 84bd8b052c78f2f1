use Rattle.std.proofs.Common.{◌∙◌, ap}
use Rattle.mk_read.specs.Names.{has_name}
use Rattle.mk_read.proofs.NameSets.{among}
use Rattle.mk_read.proofs.name_set.NameSet.contains.Goals as goal

pub returns : goal.returns
returns c = c.contains.ensures ∙ (among c.self.inside.names.keys c.args.name.now ∙ ap (λ names. has_name names c.args.name.now) c.self.view_is)
