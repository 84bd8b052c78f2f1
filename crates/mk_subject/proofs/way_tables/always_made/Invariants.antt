use Rattle.std.proofs.Common.{◌≡◌, ℕ, Bool, true, false, length}
use Rattle.std.specs.Prelude.{◌↔◌}
use Rattle.mk_build.specs.Setting.{IsAlwaysMade}
use Rattle.mk_subject.proofs.Rows.{RowsHold}
use Rattle.mk_subject.proofs.way_tables.always_made.Given as goal

-- the nodes so far
abbrev pub invariant-loop-number : goal.invariant-loop-number
invariant-loop-number l = record {
  many : length l.always.items ≡ l.number;
  held : RowsHold (λ (t : ℕ) (b : Bool). (b ≡ true) ↔ IsAlwaysMade l.graph t) l.always.items false;
}
