-- The front of a list, and what is behind it, in two parts of a slice.
use Rattle.std.proofs.Common.{◌≡◌, ◌∙◌, ◌≤◌, ◌-◌, ℕ, List, length, map, take, drop, sym, ap, arith}
use Rattle.std.specs.Prelude.{min}
use Rattle.std.proofs.lemmas.List.{drop-map, drop_min, length-drop, take-map, take_all, take_min}

-- the front, as it is seen
pub front_seen : {A B : Type 0} (see : A → B) (xs : List A) (n k : ℕ) → k ≡ min n (length xs) → map see (take k xs) ≡ take n (map see xs)
front_seen see xs n k e = ap (λ (m : ℕ). map see (take m xs)) e ∙ (ap (map see) (take_min n xs) ∙ sym (take-map see n xs))

-- all of what is behind it
rest_is : {A : Type 0} (xs : List A) (k : ℕ) → take (length xs - k) (drop k xs) ≡ drop k xs
rest_is xs k = take_all (length xs - k) (drop k xs) (let many = length-drop k xs in omega (arith, many))

-- the rest, as it is seen
pub back_seen : {A B : Type 0} (see : A → B) (xs : List A) (n k : ℕ) → k ≡ min n (length xs) → map see (take (length xs - k) (drop k xs)) ≡ drop n (map see xs)
back_seen see xs n k e = ap (map see) (rest_is xs k) ∙ (ap (λ (m : ℕ). map see (drop m xs)) e ∙ (ap (map see) (drop_min n xs) ∙ sym (drop-map see n xs)))
