use Rattle.mk_subject.proofs.way_tables.way_tables_of.Goals as goal

pub returns : goal.returns
returns c = record { ends = c.in_ok-end_tables_of.ensures; carried_held = c.in_ok-carried_sets.ensures }
