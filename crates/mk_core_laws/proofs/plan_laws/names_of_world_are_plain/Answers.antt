use Rattle.mk_core_laws.proofs.PlainWorld.{names_of_world_are_plain}
use Rattle.mk_core_laws.proofs.plan_laws.names_of_world_are_plain.Goals as goal

pub returns : goal.returns
returns c = names_of_world_are_plain c.rule_lines_are_well_named.ensures c.texts_are_plain.ensures c.goals_are_plain.ensures c.nodes_have_plain_names.ensures c.names_read_are_plain.ensures
