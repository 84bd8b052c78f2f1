use Rattle.std.proofs.Common.{◌≤◌, length}
use Rattle.mk_graph.specs.BitRows.{RowLacks}
use Rattle.mk_graph.proofs.Settling.{IsPassedFrom}
use Rattle.mk_graph.proofs.bit_rows.pass_backwards.Given as goal

abbrev pub invariant-loop-place : goal.invariant-loop-place
invariant-loop-place l = (l.place ≤ length l.order) × IsPassedFrom l.graph l.order (RowLacks l.stride l.fn.first) (RowLacks l.stride l.done) l.place (RowLacks l.stride l.first)

abbrev pub decreases-loop-place : goal.decreases-loop-place
decreases-loop-place l = l.place
