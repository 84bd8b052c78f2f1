-- Sets of numbers as bits of words, 64 numbers to a word.
use Rattle.std.specs.Prelude.{ℕ, zero, suc, ◌*◌, ◌/◌, ◌%◌, List, [], ◌∷◌, length, Bool, slice_index, nat_eq, if◌then◌else◌}
use Rattle.std.specs.Int.{bit_at}

-- Whether bit n is set.
unfoldable pub is_set : List ℕ → ℕ → Bool
is_set words n = nat_eq (bit_at (slice_index words (n / 64)) (n % 64)) 1

-- The numbers below a bound that pass a test, the greatest first.
unfoldable pub passing : (ℕ → Bool) → ℕ → List ℕ
passing test zero = []
passing test (suc n) = if test n then n ∷ passing test n else passing test n

-- The numbers whose bits are set.
unfoldable pub members : List ℕ → List ℕ
members words = passing (is_set words) (64 * length words)
