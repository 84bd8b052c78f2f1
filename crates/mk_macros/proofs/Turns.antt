-- What an iterator yields in an iteration of a loop, and that it has yielded all at the end.
use Rattle.std.proofs.Common.{◌≡◌, ◌<◌, ℕ, List, length, get_or, Option, Some, None}
use Rattle.std.specs.Borrow.{Bor}
use Rattle.std.specs.Iterator.{Yields}
use Rattle.std.proofs.lemmas.Iterator.{YieldsList}
use Rattle.std.proofs.lemmas.Iterator.Consumers.{YieldsList-turn, YieldsList-end}

pub part_given : {S : Type 0} {steps : S → Option (Bor (List ℕ)) → S → Type 0} {s : S} (all : List (List ℕ)) (xs : List (Bor (List ℕ))) (t : S) → Yields steps s xs t → (r : Option (Bor (List ℕ))) (u : S) (x : Bor (List ℕ)) → r ≡ Some x → steps t r u
    → YieldsList steps (λ (y : Bor (List ℕ)). y.now) s all → (length xs < length all) × (x.now ≡ get_or all (length xs) x.now)
part_given all xs t y r u x is step e = YieldsList-turn e xs t y r u x is step

pub parts_given : {S : Type 0} {steps : S → Option (Bor (List ℕ)) → S → Type 0} {s : S} (all : List (List ℕ)) (xs : List (Bor (List ℕ))) (t : S) → Yields steps s xs t → (r : Option (Bor (List ℕ))) (u : S) → r ≡ None → steps t r u
    → YieldsList steps (λ (y : Bor (List ℕ)). y.now) s all → length xs ≡ length all
parts_given all xs t y r u is step e = (YieldsList-end e xs t y r u is step).1
