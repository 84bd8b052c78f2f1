use Rattle.std.proofs.Common.{ℕ, ◌+◌, ◌≡◌}
use Rattle.std.specs.Prelude.{sum}
use Rattle.mk_graph.specs.Membership.{Has}
use Rattle.mk_graph.specs.BitRows.{RowLacks, OnlyIfWanted, OnlyIfFree}
use Rattle.mk_graph.proofs.bit_rows.take_rounds.Given as goal

abbrev pub invariant-loop-before : goal.invariant-loop-before
invariant-loop-before l = record {
  goals : (n o : ℕ) → Has l.graph.goals n → RowLacks l.stride l.first n o;
  wanted : OnlyIfWanted l.graph (RowLacks l.stride l.first);
  free : OnlyIfFree l.graph (RowLacks l.stride l.done);
  before : l.before ≡ sum l.first + sum l.done;
}

abbrev pub decreases-loop-before : goal.decreases-loop-before
decreases-loop-before l = l.before
