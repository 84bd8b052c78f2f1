-- What stands at the place of a name.
use Rattle.std.proofs.Common.{◌≡◌, ℕ, suc, ◌+◌, Bool, true, false, cond, List, [], ◌∷◌, map, get_or, Option, Some, None, refl, sym, ap, ◌∙◌, arith, ◌<◌, length, drop, String, Global, string_bytes}
use Rattle.std.proofs.lemmas.List.{drop_more}
use Rattle.std.specs.Prelude.{find, fold}
use Rattle.std.specs.List.{flat_map}
use Rattle.std.specs.Str.{bytes_eq}
use Rattle.std.proofs.lemmas.List.Sums.{fold-append}
use Rattle.mk_foot.specs.Names.{place_from, with_name}
use Rattle.mk_foot.specs.Parts.{SharedList}
use Rattle.mk_foot.specs.Reading.{listed}

-- an element with the name, counted from n, is the first with it
abbrev At : {A : Type 0} (key : A → List ℕ) (n : ℕ) (xs : List A) (name : List ℕ) (p : ℕ) (d : A) → Type 0
At key n xs name p d = (k : ℕ) × (p ≡ n + k) × (find (λ x. bytes_eq name (key x)) xs ≡ Some (get_or xs k d))

at_step : {A : Type 0} (x : A) (xs : List A) (n p : ℕ) (d : A) (rest : Option ℕ) (later : Option A) (b : Bool) → (rest ≡ Some p → (k : ℕ) × (p ≡ n + 1 + k) × (later ≡ Some (get_or xs k d))) → cond b (Some n) rest ≡ Some p
    → (k : ℕ) × (p ≡ n + k) × (cond b (Some x) later ≡ Some (get_or (x ∷ xs) k d))
at_step x xs n p d rest later true h e = let at : n ≡ p = cc e in (0, omega arith, refl)
at_step x xs n p d rest later false h e = let k = h e in (suc k.0, omega (arith, k.1), k.2)

found_from : {A : Type 0} (key : A → List ℕ) (n : ℕ) (xs : List A) (name : List ℕ) (p : ℕ) (d : A) → place_from n (map key xs) name ≡ Some p → At key n xs name p d
unfolding place_from
found_from key n [] name p d e = absurd cc
found_from key n (x ∷ xs) name p d e = at_step x xs n p d (place_from (n + 1) (map key xs) name) (find (λ y. bytes_eq name (key y)) xs) (bytes_eq name (key x)) (λ on. found_from key (n + 1) xs name p d on) e

none_step : {A : Type 0} (x : A) (n : ℕ) (rest : Option ℕ) (later : Option A) (b : Bool) → (rest ≡ None → later ≡ None) → cond b (Some n) rest ≡ None → cond b (Some x) later ≡ None
none_step x n rest later true h e = absurd cc
none_step x n rest later false h e = h e

missing_from : {A : Type 0} (key : A → List ℕ) (n : ℕ) (xs : List A) (name : List ℕ) → place_from n (map key xs) name ≡ None → find (λ x. bytes_eq name (key x)) xs ≡ None
unfolding place_from
missing_from key n [] name e = refl
missing_from key n (x ∷ xs) name e = none_step x n (place_from (n + 1) (map key xs) name) (find (λ y. bytes_eq name (key y)) xs) (bytes_eq name (key x)) (λ on. missing_from key (n + 1) xs name on) e

-- the first element with a name stands at its place
pub found : {A : Type 0} (key : A → List ℕ) (xs : List A) (name : List ℕ) (p : ℕ) (d : A) → place_from 0 (map key xs) name ≡ Some p → find (λ x. bytes_eq name (key x)) xs ≡ Some (get_or xs p d)
found key xs name p d e =
    let h = found_from key 0 xs name p d e in
    let at : h.0 ≡ p = omega (arith, h.1) in
    h.2 ∙ ap (λ k. Some (get_or xs k d)) at

-- the place lies within the list
within_from : {A : Type 0} (key : A → List ℕ) (n : ℕ) (xs : List A) (name : List ℕ) (p : ℕ) → place_from n (map key xs) name ≡ Some p → p < n + length xs
unfolding place_from
within_from key n [] name p e = absurd cc
within_from key n (x ∷ xs) name p e = at (bytes_eq name (key x)) (within_from key (n + 1) xs name p) e
  where
    at : (b : Bool) → (place_from (n + 1) (map key xs) name ≡ Some p → p < n + 1 + length xs) → cond b (Some n) (place_from (n + 1) (map key xs) name) ≡ Some p → p < n + suc (length xs)
    at true deeper is = let here : n ≡ p = cc is in omega arith
    at false deeper is = let low = deeper is in omega arith

pub within : {A : Type 0} (key : A → List ℕ) (xs : List A) (name : List ℕ) (p : ℕ) → place_from 0 (map key xs) name ≡ Some p → p < length xs
within key xs name p e = let low = within_from key 0 xs name p e in omega arith

-- no element has it where it has no place
pub missing : {A : Type 0} (key : A → List ℕ) (xs : List A) (name : List ℕ) → place_from 0 (map key xs) name ≡ None → find (λ x. bytes_eq name (key x)) xs ≡ None
missing key xs name e = missing_from key 0 xs name e

-- the names of a list that is there, or none
names_in : Option SharedList → List (List ℕ)
names_in None = []
names_in (Some list) = list.names

listed_in : (lists : List SharedList) (name : List ℕ) → listed lists name ≡ names_in (find (λ (l : SharedList). bytes_eq name l.name) lists)
unfolding names_in
listed_in [] name = refl
listed_in (list ∷ lists) name = at (bytes_eq name list.name) (listed_in lists name)
  where
    at : (b : Bool) → listed lists name ≡ names_in (find (λ (l : SharedList). bytes_eq name l.name) lists) → cond b list.names (listed lists name) ≡ names_in (cond b (Some list) (find (λ (l : SharedList). bytes_eq name l.name) lists))
    at true e = refl
    at false e = e

pub listed_there : (lists : List SharedList) (names : List (List ℕ)) (name : List ℕ) (p : ℕ) (d : SharedList) → names ≡ map (λ (l : SharedList). l.name) lists → Some p ≡ place_from 0 names name → listed lists name ≡ (get_or lists p d).names
unfolding names_in
listed_there lists names name p d is e = listed_in lists name ∙ ap names_in (found (λ (l : SharedList). l.name) lists name p d (sym (e ∙ ap (λ ns. place_from 0 ns name) is)))

pub listed_nowhere : (lists : List SharedList) (names : List (List ℕ)) (name : List ℕ) → names ≡ map (λ (l : SharedList). l.name) lists → None ≡ place_from 0 names name → listed lists name ≡ []
unfolding names_in
listed_nowhere lists names name is e = listed_in lists name ∙ ap names_in (missing (λ (l : SharedList). l.name) lists name (sym (e ∙ ap (λ ns. place_from 0 ns name) is)))

-- the names of one list more
pub next_list : (lists : List SharedList) (set new : List (List ℕ)) (shared : List (String Global)) (i : ℕ) (d : String Global) (whole : List (List ℕ)) → new ≡ fold with_name set (listed lists (string_bytes (get_or shared i d)))
    → fold with_name set (flat_map (listed lists) (map string_bytes (drop i shared))) ≡ whole → i < length shared → fold with_name new (flat_map (listed lists) (map string_bytes (drop (i + 1) shared))) ≡ whole
next_list lists set new shared i d whole e so_far lt =
    let rest = flat_map (listed lists) (map string_bytes (drop (i + 1) shared)) in
    ap (λ s. fold with_name s rest) e ∙ (sym (fold-append with_name set (listed lists (string_bytes (get_or shared i d))) rest) ∙ (sym (ap (λ (ns : List (String Global)). fold with_name set (flat_map (listed lists) (map string_bytes ns))) (drop_more shared i d lt)) ∙ so_far))
