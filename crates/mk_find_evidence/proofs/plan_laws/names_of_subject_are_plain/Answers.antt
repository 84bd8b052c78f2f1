use Rattle.mk_find_evidence.proofs.PlainNames as proof
use Rattle.mk_find_evidence.proofs.plan_laws.names_of_subject_are_plain.Goals as goal

pub returns : goal.returns
returns c = proof.names_of_subject_are_plain c.rule_lines_are_well_named.ensures c.texts_are_plain.ensures c.goals_are_plain.ensures c.nodes_have_plain_names.ensures c.names_read_are_plain.ensures
