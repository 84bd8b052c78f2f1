use Rattle.std.proofs.Common.{◌≡◌, ℕ, [], length}
use Rattle.mk_graph.specs.Progress.{row}
use Rattle.mk_claims.proofs.offer.empty_rows.Given as goal

-- as many empty rows as rounds so far
abbrev pub invariant-loop : goal.invariant-loop
invariant-loop l = record {
  many : length l.rows.items ≡ l.counter;
  empty : (n : ℕ) → row l.rows.items n ≡ [];
}
