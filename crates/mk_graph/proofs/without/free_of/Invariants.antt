use Rattle.mk_graph.proofs.Rounds.{AreFreeUpTo}
use Rattle.mk_graph.proofs.without.free_of.Given as goal

abbrev pub invariant-loop-n : goal.invariant-loop-n
invariant-loop-n l = AreFreeUpTo l.graph l.n-items l.o l.n-index l.free
