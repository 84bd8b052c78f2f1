-- Tests over lists.
use Rattle.std.proofs.Common.{◌≡◌, ℕ, zero, suc, ◌+◌, ◌-◌, ◌<◌, Bool, true, false, List, [], ◌∷◌, length, get_or, take, drop, sym, ap, ◌∙◌, arith, zero-le}
use Rattle.std.specs.List.{list_any, before_first, after_first}
use Rattle.std.proofs.lemmas.Bool.{or_left, or_right, false_from_ne_true}
use Rattle.std.proofs.lemmas.List.{take_rest}
use Rattle.std.proofs.lemmas.List.Folds.{list_any_none}
use Rattle.std.proofs.lemmas.List.Elements.{All-from_get_or}
use Rattle.bstr.specs.Find.{Nowhere, NoneBefore, Passes}
use Rattle.mk_lines.proofs.FirstByte.{found_at}

-- an element that passes is found
pub list_any_at : (p : ℕ → Bool) (xs : List ℕ) (i : ℕ) → i < length xs → p (get_or xs i 0) ≡ true → list_any p xs ≡ true
list_any_at p [] i lt h = absurd (omega arith)
list_any_at p (x ∷ xs) zero lt h = or_left (p x) (list_any p xs) h
list_any_at p (x ∷ xs) (suc i) lt h = or_right (p x) (list_any p xs) (list_any_at p xs i (omega arith) h)

-- no byte passes
pub none_passes : (p : ℕ → Bool) (xs : List ℕ) → Nowhere (Passes p xs) 0 (length xs) → list_any p xs ≡ false
none_passes p xs h = list_any_none p xs (All-from_get_or (λ x. p x ≡ false) xs 0 (λ i lt. false_from_ne_true _ (h i zero-le lt)))

-- what stands round the first byte that passes
pub round_found : (p : ℕ → Bool) (xs : List ℕ) (i : ℕ) → NoneBefore (Passes p xs) 0 (length xs) i × Passes p xs i → (list_any p xs ≡ true) × (take i xs ≡ before_first p xs) × (take (length xs - (i + 1)) (drop (i + 1) xs) ≡ after_first p xs)
round_found p xs i h =
    let at = found_at p xs i h in
    (list_any_at p xs i h.0.high h.1, ap (λ n. take n xs) (sym at), take_rest xs (i + 1) ∙ ap (λ n. drop (n + 1) xs) (sym at))
