-- Lookups in the rows of a table.
use Rattle.std.proofs.Common.{◌≡◌, Bool, true, false, ◌||◌, cond, ℕ, List, [], ◌∷◌, map, Option, None, Some, refl, sym, ap, ◌∙◌}
use Rattle.std.specs.List.{find, list_any}
use Rattle.std.specs.Option.{is_some, option_map, option_or}

-- a search in what a function gives
find_map : {A B : Type 0} (f : A → B) (p : B → Bool) (xs : List A) → find p (map f xs) ≡ option_map f (find (λ (x : A). p (f x)) xs)
find_map f p [] = refl
find_map {A} {B} f p (x ∷ xs) =
    elim (p (f x)) as (λ b. cond b (Some (f x)) (find p (map f xs)) ≡ option_map f (cond b (Some x) (find (λ (y : A). p (f y)) xs))) [
      | true ↦ refl
      | false ↦ find_map f p xs
    ]

-- an entry of a row that was found
entry_of : {A K : Type 0} (key : A → K) (word : A → List ℕ) (r : Option A) → option_map word r ≡ option_map (λ (e : K × List ℕ). e.1) (option_map (λ (row : A). (key row, word row)) r)
entry_of key word None = refl
entry_of key word (Some row) = refl

-- what the row that was found says is what its entry says
pub said : {A K : Type 0} (key : A → K) (word : A → List ℕ) (p : K → Bool) (rows : List A) (r : Option A) → r ≡ find (λ (row : A). p (key row)) rows
    → option_map word r ≡ option_map (λ (e : K × List ℕ). e.1) (find (λ (e : K × List ℕ). p e.0) (map (λ (row : A). (key row, word row)) rows))
said {A} {K} key word p rows r h =
    ap (λ (o : Option A). option_map word o) h
    ∙ (entry_of key word (find (λ (row : A). p (key row)) rows)
    ∙ sym (ap (λ (o : Option (K × List ℕ)). option_map (λ (e : K × List ℕ). e.1) o) (find_map (λ (row : A). (key row, word row)) (λ (e : K × List ℕ). p e.0) rows)))

-- a word that was found in a row is found among the words
pub word_of_row : {A : Type 0} (word : A → List ℕ) (p : List ℕ → Bool) (rows : List A) (r : Option A) → r ≡ find (λ (row : A). p (word row)) rows
    → option_map word r ≡ find p (map word rows)
word_of_row {A} word p rows r h =
    ap (λ (o : Option A). option_map word o) h ∙ sym (find_map word p rows)

-- the first of two is there, or the second
pub some_or : {A : Type 0} (a b : Option A) → is_some (option_or a b) ≡ (is_some a || is_some b)
some_or None b = refl
some_or (Some x) b = refl

-- an element is found where one passes
pub some_find : {A : Type 0} (p : A → Bool) (xs : List A) → is_some (find p xs) ≡ list_any p xs
some_find p [] = refl
some_find {A} p (x ∷ xs) =
    elim (p x) as (λ b. is_some (cond b (Some x) (find p xs)) ≡ (b || list_any p xs)) [
      | true ↦ refl
      | false ↦ some_find p xs
    ]
