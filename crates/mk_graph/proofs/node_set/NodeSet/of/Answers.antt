use Rattle.std.proofs.Common.{eqb-true, eq-eqb}
use Rattle.mk_graph.specs.Bits.{is_set}
use Rattle.mk_graph.proofs.Sets.{member_is, bit_of}
use Rattle.mk_graph.proofs.node_set.NodeSet.of.Goals as goal

pub returns : goal.returns
unfolding is_set
returns c n = (λ h. eq-eqb (bit_of c.args.words n) 1 ((member_is c.args.words n).0 h), λ e. (member_is c.args.words n).1 (eqb-true (bit_of c.args.words n) 1 e))
