use Rattle.std.proofs.Common.{◌≡◌, ℕ, List, [], map, length}
use Rattle.mk_subject.specs.Carried.{carried}
use Rattle.mk_subject.proofs.Rows.{RowsHold}
use Rattle.mk_subject.proofs.carrying.carried_lists.Given as goal

-- the lists so far
abbrev pub invariant-loop-number : goal.invariant-loop-number
invariant-loop-number l = record {
  many : length l.lists.items ≡ l.number;
  held : RowsHold (λ (t : ℕ) (row : List ℕ). row ≡ carried l.subject t) (map (λ list. list.items) l.lists.items) [];
}
