use Rattle.mk_graph.proofs.bit_rows.sum_of.Goals as goal

pub returns-clause-fits : goal.returns-clause-fits
returns-clause-fits c k = (c.type_inv.words k).fits
