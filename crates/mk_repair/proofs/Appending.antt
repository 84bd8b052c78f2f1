-- Texts that a loop appends, one for each item.
use Rattle.std.proofs.Common.{◌≡◌, ℕ, ◌+◌, ◌<◌, ◌≤◌, List, [], ◌∷◌, ◌++◌, length, get_or, drop, Some, sym, ap, ◌∙◌}
use Rattle.std.specs.List.{flat_map, slice_get}
use Rattle.std.proofs.lemmas.List.{append_assoc, append-nil, drop_more, drop_all}
use Rattle.std.proofs.lemmas.Option.{slice_get_within, get_or_from_slice_get}

-- one more item is written
pub append_more : {X : Type 0} (f : X → List ℕ) (xs : List X) (i : ℕ) (x : X) (out new all : List ℕ) → i < length xs → x ≡ get_or xs i x → new ≡ out ++ f x → out ++ flat_map f (drop i xs) ≡ all → new ++ flat_map f (drop (i + 1) xs) ≡ all
append_more f xs i x out new all lt is step inv =
    let rest = flat_map f (drop (i + 1) xs) in
    let here = ap (flat_map f) (drop_more xs i x lt) in
    ap (λ l. l ++ rest) step ∙ (append_assoc out (f x) rest ∙ (ap (λ y. out ++ (f y ++ rest)) is ∙ (sym (ap (λ l. out ++ l) here) ∙ inv)))

-- none is left
pub append_all : {X : Type 0} (f : X → List ℕ) (xs : List X) (i : ℕ) (out all : List ℕ) → length xs ≤ i → out ++ flat_map f (drop i xs) ≡ all → out ≡ all
append_all f xs i out all le inv = sym (append-nil out) ∙ (sym (ap (λ l. out ++ flat_map f l) (drop_all i xs le)) ∙ inv)

-- a text is written whose rest follows
pub append_step : (out new text rest before all : List ℕ) → new ≡ out ++ text → before ≡ text ++ rest → out ++ before ≡ all → new ++ rest ≡ all
append_step out new text rest before all step here inv = ap (λ l. l ++ rest) step ∙ (append_assoc out text rest ∙ (ap (λ l. out ++ l) (sym here) ∙ inv))

-- what is left of a list whose element at an index was read
pub drop_at_get : {X : Type 0} (xs : List X) (i : ℕ) (x : X) → Some x ≡ slice_get xs i → drop i xs ≡ x ∷ drop (i + 1) xs
drop_at_get xs i x e = drop_more xs i x (slice_get_within xs i x (sym e)) ∙ ap (λ y. y ∷ drop (i + 1) xs) (get_or_from_slice_get xs i x x (sym e))
