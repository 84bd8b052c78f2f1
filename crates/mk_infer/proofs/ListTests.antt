-- Tests over lists.
use Rattle.std.proofs.Common.{◌≡◌, ltb, List, length, Bool, true, false, cond, refl, arith}
use Rattle.std.specs.Prelude.{position, Some, None}
use Rattle.std.specs.List.{position_or_len}
use Rattle.std.proofs.lemmas.Bool.{ltb-false}
use Rattle.mk_lemmas.proofs.Lists.{position_or_len-within}

pub position_none : {A : Type 0} (p : A → Bool) (xs : List A) → position p xs ≡ None → position_or_len p xs ≡ length xs
position_none p xs e = none_at (ltb (position_or_len p xs) (length xs)) refl e
  where
    none_at : (b : Bool) → ltb (position_or_len p xs) (length xs) ≡ b → cond b (Some (position_or_len p xs)) None ≡ None → position_or_len p xs ≡ length xs
    none_at true t e = absurd cc
    none_at false t e = omega (arith, ltb-false _ _ t, position_or_len-within p xs)
