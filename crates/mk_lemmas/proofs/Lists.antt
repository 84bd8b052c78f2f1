-- Lists that are mapped, filtered or searched.
use Rattle.std.proofs.Common.{◌≡◌, ℕ, zero, suc, ◌+◌, ◌≤◌, Bool, true, false, not, ◌&&◌, ◌||◌, cond, ltb, List, [], ◌∷◌, ◌++◌, map, length, get_or, Some, None, refl, sym, ap, ◌∙◌, arith}
use Rattle.std.specs.Prelude.{filter, find, position}
use Rattle.std.specs.List.{flat_map, list_any, list_all, position_or_len}
use Rattle.std.proofs.lemmas.Bool.{ltb-false}
use Rattle.std.proofs.lemmas.Option.{cond_some}

-- A test over what f gives.
pub list_any-map : {A B : Type 0} (p : B → Bool) (f : A → B) (xs : List A) → list_any p (map f xs) ≡ list_any (λ x. p (f x)) xs
list_any-map p f [] = refl
list_any-map p f (x ∷ xs) = ap (λ b. p (f x) || b) (list_any-map p f xs)

pub list_all-map : {A B : Type 0} (p : B → Bool) (f : A → B) (xs : List A) → list_all p (map f xs) ≡ list_all (λ x. p (f x)) xs
list_all-map p f [] = refl
list_all-map p f (x ∷ xs) = ap (λ b. p (f x) && b) (list_all-map p f xs)

-- What f gives for all that a view shows, joined.
pub flat_map-map : {A : Type 0} (f : List ℕ → List ℕ) (see : A → List ℕ) (xs : List A) → flat_map (λ x. f (see x)) xs ≡ flat_map f (map see xs)
flat_map-map f see [] = refl
flat_map-map f see (x ∷ xs) = ap (λ rest. f (see x) ++ rest) (flat_map-map f see xs)

-- A mapped list at a place, with the mapped default.
pub get_or-map_default : {A B : Type 0} (f : A → B) (xs : List A) (n : ℕ) (d : A) → get_or (map f xs) n (f d) ≡ f (get_or xs n d)
get_or-map_default f [] n d = refl
get_or-map_default f (x ∷ xs) zero d = refl
get_or-map_default f (x ∷ xs) (suc n) d = get_or-map_default f xs n d

-- Two filters are one.
pub filter-filter : {A : Type 0} (p q : A → Bool) (xs : List A) → filter p (filter q xs) ≡ filter (λ x. q x && p x) xs
filter-filter p q [] = refl
filter-filter {A} p q (x ∷ xs) = at (q x) (filter-filter p q xs)
  where
    at : (b : Bool) → filter p (filter q xs) ≡ filter (λ y. q y && p y) xs → filter p (cond b (x ∷ filter q xs) (filter q xs)) ≡ cond (b && p x) (x ∷ filter (λ y. q y && p y) xs) (filter (λ y. q y && p y) xs)
    at true e = ap (λ (ys : List A). cond (p x) (x ∷ ys) ys) e
    at false e = e

-- What is found passes.
pub find-passes : {A : Type 0} (p : A → Bool) (xs : List A) (x : A) → find p xs ≡ Some x → p x ≡ true
find-passes p [] x h = absurd cc
find-passes {A} p (y ∷ xs) x h = at (p y) refl h (find-passes p xs x)
  where
    at : (b : Bool) → p y ≡ b → cond b (Some y) (find p xs) ≡ Some x → (find p xs ≡ Some x → p x ≡ true) → p x ≡ true
    at true e k ih = let same : y ≡ x = cc in ap p (sym same) ∙ e
    at false e k ih = ih k

-- Where `position` finds an element.
pub position-some : {A : Type 0} (p : A → Bool) (xs : List A) (i : ℕ) → position p xs ≡ Some i → position_or_len p xs ≡ i
position-some p xs i e = (cond_some (ltb (position_or_len p xs) (length xs)) (position_or_len p xs) i e).1

-- It finds none at the end.
pub position-none : {A : Type 0} (p : A → Bool) (xs : List A) → position p xs ≡ None → length xs ≤ position_or_len p xs
position-none p xs e = none_at (ltb (position_or_len p xs) (length xs)) refl e
  where
    none_at : (b : Bool) → ltb (position_or_len p xs) (length xs) ≡ b → cond b (Some (position_or_len p xs)) None ≡ None → length xs ≤ position_or_len p xs
    none_at true t e = absurd cc
    none_at false t e = ltb-false _ _ t

-- A place lies within the list, or at its end.
pub position_or_len-within : {A : Type 0} (p : A → Bool) (xs : List A) → position_or_len p xs ≤ length xs
position_or_len-within p [] = omega arith
position_or_len-within p (x ∷ xs) = at (not (p x)) (position_or_len-within p xs)
  where
    at : (b : Bool) → position_or_len p xs ≤ length xs → cond b (1 + position_or_len p xs) 0 ≤ suc (length xs)
    at true h = omega arith
    at false h = omega arith
