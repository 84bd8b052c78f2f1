use Rattle.mk_graph.specs.BitRows.{RowLacks}
use Rattle.mk_graph.proofs.Settling.{IsPassedUpTo}
use Rattle.mk_graph.proofs.bit_rows.pass_forwards.Given as goal

abbrev pub invariant-loop-n : goal.invariant-loop-n
invariant-loop-n l = IsPassedUpTo l.graph l.n-items (RowLacks l.stride l.first) (RowLacks l.stride l.fn.done) l.n-index (RowLacks l.stride l.done)
