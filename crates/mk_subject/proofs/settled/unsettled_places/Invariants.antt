use Rattle.std.proofs.Common.{◌≡◌, ℕ, List, [], get_or, length}
use Rattle.mk_subject.proofs.Rows.{RowsHold}
use Rattle.mk_subject.proofs.SettledReads.{Unsettled}
use Rattle.mk_subject.proofs.settled.unsettled_places.Given as goal

-- the rows so far
abbrev pub invariant-loop-number : goal.invariant-loop-number
invariant-loop-number l = record {
  many : length l.unsettled ≡ l.number;
  held : RowsHold (λ (t : ℕ) (row : List ℕ). Unsettled l.known (get_or l.places t []) row) l.unsettled [];
}
