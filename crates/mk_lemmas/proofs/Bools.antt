-- Tests that are joined, beside Rattle.std.proofs.lemmas.Bool and mathlib.Core.Bool.
use Rattle.std.proofs.Common.{◌≡◌, ℕ, Bool, true, false, ◌||◌, eqb, refl, arith}
use Rattle.std.proofs.lemmas.Bool.Decides.{nat_tests}

-- Where neither test passes, the first doesn't.
pub or-false_left : (a b : Bool) → (a || b) ≡ false → a ≡ false
or-false_left true b e = absurd cc
or-false_left false b e = refl

-- Nor does the second.
pub or-false_right : (a b : Bool) → (a || b) ≡ false → b ≡ false
or-false_right true b e = absurd cc
or-false_right false b e = e

pub eqb-sym : (m n : ℕ) → eqb m n ≡ eqb n m
eqb-sym m n = grind (arith, nat_tests)
