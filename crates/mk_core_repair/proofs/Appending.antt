-- Lists that a loop appends to, one item at a time.
use Rattle.std.proofs.Common.{◌≡◌, ℕ, ◌+◌, ◌<◌, ◌≤◌, Bool, true, false, List, [], ◌∷◌, ◌++◌, length, get_or, drop, filter, map, sym, ap, ◌∙◌}
use Rattle.std.specs.List.{flat_map}
use Rattle.std.proofs.lemmas.Bool.{cond-true, cond-false}
use Rattle.std.proofs.lemmas.List.{append_assoc, append-nil, at_drop_all, at_drop_more}
use Rattle.std.proofs.lemmas.List.Elements.{filter-append}

-- one more item is appended
pub push_more : {X Y : Type 0} (f : X → Y) (xs : List X) (i : ℕ) (x : X) (out new all : List Y) → i < length xs → x ≡ get_or xs i x → new ≡ out ++ f x ∷ [] → out ++ map f (drop i xs) ≡ all
    → new ++ map f (drop (i + 1) xs) ≡ all
push_more f xs i x out new all lt is step inv =
    let rest = map f (drop (i + 1) xs) in
    ap (λ l. l ++ rest) step ∙ (append_assoc out (f x ∷ []) rest ∙ (ap (λ y. out ++ f y ∷ rest) is ∙ (ap (λ l. out ++ l) (sym (at_drop_more (map f) xs i x lt)) ∙ inv)))

-- none is left
pub push_all : {X Y : Type 0} (f : X → Y) (xs : List X) (i : ℕ) (out all : List Y) → length xs ≤ i → out ++ map f (drop i xs) ≡ all → out ≡ all
push_all f xs i out all le inv = sym (append-nil out) ∙ (ap (λ l. out ++ l) (sym (at_drop_all (map f) xs i le)) ∙ inv)

-- an item that passes the test is appended
pub keep_more : {X : Type 0} (t : X → Bool) (xs : List X) (i : ℕ) (x : X) (out new all : List X) → i < length xs → x ≡ get_or xs i x → t x ≡ true → new ≡ out ++ x ∷ []
    → out ++ filter t (drop i xs) ≡ all → new ++ filter t (drop (i + 1) xs) ≡ all
keep_more t xs i x out new all lt is passes step inv =
    let rest = filter t (drop (i + 1) xs) in
    let kept : filter t (get_or xs i x ∷ drop (i + 1) xs) ≡ get_or xs i x ∷ rest = cond-true (t (get_or xs i x)) (get_or xs i x ∷ rest) rest (ap t (sym is) ∙ passes) in
    ap (λ l. l ++ rest) step ∙ (append_assoc out (x ∷ []) rest ∙ (ap (λ y. out ++ y ∷ rest) is ∙ (ap (λ l. out ++ l) (sym (at_drop_more (filter t) xs i x lt ∙ kept)) ∙ inv)))

-- another is passed over
pub skip_more : {X : Type 0} (t : X → Bool) (xs : List X) (i : ℕ) (x : X) (out all : List X) → i < length xs → x ≡ get_or xs i x → t x ≡ false → out ++ filter t (drop i xs) ≡ all
    → out ++ filter t (drop (i + 1) xs) ≡ all
skip_more t xs i x out all lt is fails inv =
    let rest = filter t (drop (i + 1) xs) in
    let gone : filter t (get_or xs i x ∷ drop (i + 1) xs) ≡ rest = cond-false (t (get_or xs i x)) (get_or xs i x ∷ rest) rest (ap t (sym is) ∙ fails) in
    ap (λ l. out ++ l) (sym (at_drop_more (filter t) xs i x lt ∙ gone)) ∙ inv

pub keep_all : {X : Type 0} (t : X → Bool) (xs : List X) (i : ℕ) (out all : List X) → length xs ≤ i → out ++ filter t (drop i xs) ≡ all → out ≡ all
keep_all t xs i out all le inv = sym (append-nil out) ∙ (ap (λ l. out ++ l) (sym (at_drop_all (filter t) xs i le)) ∙ inv)

-- the items of one more list that pass the test are appended
pub keep_list : {X Z Y : Type 0} (t : Y → Bool) (f : Z → List Y) (h : X → Z) (xs : List X) (i : ℕ) (x : X) (out new all : List Y) → i < length xs → x ≡ get_or xs i x → new ≡ out ++ filter t (f (h x))
    → out ++ filter t (flat_map f (map h (drop i xs))) ≡ all → new ++ filter t (flat_map f (map h (drop (i + 1) xs))) ≡ all
keep_list t f h xs i x out new all lt is step inv =
    let rest = flat_map f (map h (drop (i + 1) xs)) in
    let parted : filter t (f (h (get_or xs i x)) ++ rest) ≡ filter t (f (h (get_or xs i x))) ++ filter t rest = filter-append t (f (h (get_or xs i x))) rest in
    ap (λ l. l ++ filter t rest) step ∙ (append_assoc out (filter t (f (h x))) (filter t rest) ∙ (ap (λ y. out ++ (filter t (f (h y)) ++ filter t rest)) is
    ∙ (ap (λ l. out ++ l) (sym (at_drop_more (λ l. filter t (flat_map f (map h l))) xs i x lt ∙ parted)) ∙ inv)))
