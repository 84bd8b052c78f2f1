use Rattle.std.proofs.Common.{◌≡◌, [], length}
use Rattle.std.specs.Prelude.{All}
use Rattle.mk_cert.proofs.judging.empty_sets.Given as goal

-- the sets so far
abbrev pub invariant-loop : goal.invariant-loop
invariant-loop l = record {
  many : length l.sets.items ≡ l.counter;
  empty : All (λ set. set ≡ []) l.sets.items;
}
