-- What stands before and after the first byte that a search finds.
use Rattle.std.proofs.Common.{◌≡◌, ℕ, ◌+◌, ◌-◌, ◌<◌, Bool, false, eqb, List, [], ◌∷◌, ◌++◌, length, get_or, take, drop, refl, sym, ap, ◌∙◌, arith, zero-le}
use Rattle.std.specs.Prelude.{Option, None, Some, is_some}
use Rattle.std.specs.List.{list_any, slice_split, position_or_len, All}
use Rattle.std.proofs.lemmas.Bool.{false_from_ne_true, eqb-true}
use Rattle.std.proofs.lemmas.List.{take_rest, take-append-drop, at_drop_more, length-take, get_or-take}
use Rattle.std.proofs.lemmas.List.Sums.{position_or_len_is}
use Rattle.std.proofs.lemmas.List.Splits.{slice_split_first, slice_split_none}
use Rattle.std.proofs.lemmas.List.Elements.{All-from_get_or}
use Rattle.std.proofs.lemmas.List.Folds.{list_any_at, list_any_none}
use Rattle.bstr.specs.Find.{IsFirstByte, Nowhere, NoneBefore, Passes}

-- where a byte is found
pub found_at : (p : ℕ → Bool) (xs : List ℕ) (i : ℕ) → NoneBefore (Passes p xs) 0 (length xs) i × Passes p xs i → position_or_len p xs ≡ i
found_at p xs i h = position_or_len_is p xs i 0 (omega (arith, h.0.high)) (λ k lt. false_from_ne_true _ (h.0.before k zero-le lt)) (λ _. h.1)

-- where none is
pub found_nowhere : (p : ℕ → Bool) (xs : List ℕ) → Nowhere (Passes p xs) 0 (length xs) → position_or_len p xs ≡ length xs
found_nowhere p xs h = position_or_len_is p xs (length xs) 0 (omega arith) (λ k lt. false_from_ne_true _ (h k zero-le lt)) (λ lt. absurd (omega arith))

-- the parts round the first byte that passes
pub split_found : (p : ℕ → Bool) (xs : List ℕ) (i : ℕ) → NoneBefore (Passes p xs) 0 (length xs) i × Passes p xs i → slice_split p xs ≡ take i xs ∷ slice_split p (take (length xs - (i + 1)) (drop (i + 1) xs))
split_found p xs i h =
    let at : position_or_len p xs ≡ i = found_at p xs i h in
    let low : position_or_len p xs < length xs = omega (arith, h.0.high) in
    slice_split_first p xs 0 low ∙ (rw at (rw (take_rest xs (i + 1)) refl))

-- without such a byte the list is the one part
pub split_not_found : (p : ℕ → Bool) (xs : List ℕ) → Nowhere (Passes p xs) 0 (length xs) → slice_split p xs ≡ xs ∷ []
split_not_found p xs h = slice_split_none p xs (All-from_get_or (λ x. p x ≡ false) xs 0 (λ i lt. false_from_ne_true _ (h i zero-le lt)))

-- no byte passes before the first one that does, and none at all where there is none
pub clean_before : (p : ℕ → Bool) (xs : List ℕ) (i : ℕ) → NoneBefore (Passes p xs) 0 (length xs) i × Passes p xs i → All (λ x. p x ≡ false) (take i xs)
clean_before p xs i h =
    All-from_get_or (λ x. p x ≡ false) (take i xs) 0 (λ k lt.
    let low : k < i = omega (arith, length-take i xs) in
    rw get_or-take (false_from_ne_true _ (h.0.before k zero-le low)))

pub clean_all : (p : ℕ → Bool) (xs : List ℕ) → Nowhere (Passes p xs) 0 (length xs) → All (λ x. p x ≡ false) xs
clean_all p xs h = All-from_get_or (λ x. p x ≡ false) xs 0 (λ i lt. false_from_ne_true _ (h i zero-le lt))

-- the text round its first such byte
pub round_byte : (c : ℕ) (xs : List ℕ) (i : ℕ) → NoneBefore (Passes (λ b. eqb b c) xs) 0 (length xs) i × Passes (λ b. eqb b c) xs i → xs ≡ take i xs ++ c ∷ take (length xs - (i + 1)) (drop (i + 1) xs)
round_byte c xs i h =
    let low : i < length xs = h.0.high in
    let here : get_or xs i 0 ≡ c = eqb-true (get_or xs i 0) c h.1 in
    sym (take-append-drop i xs) ∙ ap (λ rest. take i xs ++ rest) (at_drop_more (λ rest. rest) xs i 0 low ∙ (ap (λ b. b ∷ drop (i + 1) xs) here ∙ ap (λ rest. c ∷ rest) (sym (take_rest xs (i + 1)))))

-- whether one is found is whether there is one
pub found_some : (p : ℕ → Bool) (xs : List ℕ) (o : Option ℕ) → IsFirstByte p xs o → is_some o ≡ list_any p xs
found_some p xs None h = sym (list_any_none p xs (clean_all p xs h))
found_some p xs (Some i) h = sym (list_any_at p xs i 0 h.0.high h.1)
