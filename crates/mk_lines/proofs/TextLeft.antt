-- What is left of a text.
use Rattle.std.proofs.Common.{ℕ, ◌+◌, ◌≤◌, List, length, Option, None, Some, arith}
use Rattle.std.specs.Prelude.{MatchOption}
use Rattle.std.specs.Borrow.{Bor}
use Rattle.std.specs.Option.{option_map}

-- the bytes that are left, and one for the end
abbrev pub size_left : Option (List ℕ) → ℕ
size_left None = 0
size_left (Some text) = length text + 1

-- pieces so far and what is left
pub still_counted : (n count : ℕ) (o : Option (Bor (List ℕ))) → MatchOption o (count ≤ n + 1) (λ rest. count + length rest.now ≤ n) → count + size_left (option_map (λ r. r.now) o) ≤ n + 1
still_counted n count None h = omega arith
still_counted n count (Some rest) h = omega arith
