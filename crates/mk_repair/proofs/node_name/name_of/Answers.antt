use Rattle.std.proofs.Common.{◌∙◌}
use Rattle.mk_repair.proofs.NodeNames.{name_read, name_past}
use Rattle.mk_repair.proofs.node_name.name_of.Goals as goal

pub returns-in-Some : goal.returns-in-Some
returns-in-Some c =
    let found = c.in-Some.ensures.lookup.3 in
    name_read c.args.subject.now c.as_slice.result.now c.args.number c.in-Some.name.now (c.as_slice.ensures ∙ c.names.ensures) found.0 (found.1 c.in-Some.name.now)

pub returns-in-None : goal.returns-in-None
returns-in-None c = name_past c.args.subject.now c.as_slice.result.now c.args.number (c.as_slice.ensures ∙ c.names.ensures) c.in-None.ensures.lookup.3
