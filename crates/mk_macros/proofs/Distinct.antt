-- Names without repetition, each at its first place.
use Rattle.std.proofs.Common.{◌≡◌, ℕ, ◌+◌, ◌<◌, ◌≤◌, Bool, true, false, not, ◌&&◌, ◌||◌, cond, List, [], ◌∷◌, ◌++◌, length, get_or, drop, refl, sym, ap, ◌∙◌, append_assoc, append-nil}
use Rattle.std.specs.Prelude.{filter}
use Rattle.std.specs.List.{list_any}
use Rattle.std.specs.Borrow.{Bor}
use Rattle.std.specs.Str.{bytes_eq}
use Rattle.std.proofs.lemmas.List.{drop_more, drop_all, map_push}
use Rattle.std.proofs.lemmas.List.Folds.{list_any-append}
use Rattle.std.proofs.lemmas.List.Elements.{filter_agree}
use Rattle.std.proofs.lemmas.Slice.Eq.{bytes_eq-Decides}
use Rattle.mk_lemmas.proofs.Texts.{texts}
use Rattle.mk_lemmas.proofs.Lists.{filter-filter}
use Rattle.mk_macros.specs.Locals.{distinct}

-- the name is among the names
abbrev has : List (List ℕ) → List ℕ → Bool
has names name = list_any (λ other. bytes_eq name other) names

-- a name that is there isn't new
there : (set : List (List ℕ)) (x y : List ℕ) → has set x ≡ true → (b : Bool) → bytes_eq y x ≡ b → (not b && not (has set y)) ≡ not (has set y)
there set x y h false e = refl
there set x y h true e = sym (ap not (ap (has set) ((bytes_eq-Decides y x).0 e) ∙ h))

-- a name is new beside one more
new_beside : (set : List (List ℕ)) (x y : List ℕ) → (not (bytes_eq y x) && not (has set y)) ≡ not (has (set ++ x ∷ []) y)
new_beside set x y = both (bytes_eq y x) (has set y) ∙ ap not (sym (list_any-append (λ other. bytes_eq y other) set (x ∷ [])))
  where
    both : (a b : Bool) → (not a && not b) ≡ not (b || (a || false))
    both true true = refl
    both true false = refl
    both false true = refl
    both false false = refl

-- the names of a set, and the new ones of a list
abbrev pub and_new : List (List ℕ) → List (List ℕ) → List (List ℕ)
and_new set names = set ++ filter (λ name. not (has set name)) (distinct names)

-- a name goes into the set
one_into : (set : List (List ℕ)) (x : List ℕ) (rest : List (List ℕ)) (b : Bool) → has set x ≡ b → and_new set (x ∷ rest) ≡ and_new (cond b set (set ++ x ∷ [])) rest
unfolding distinct
one_into set x rest true h =
    let skipped : filter (λ name. not (has set name)) (distinct (x ∷ rest)) ≡ filter (λ name. not (has set name)) (filter (λ other. not (bytes_eq other x)) (distinct rest)) = rw h refl in
    ap (λ ns. set ++ ns) (skipped ∙ (filter-filter (λ name. not (has set name)) (λ other. not (bytes_eq other x)) (distinct rest) ∙ filter_agree _ (λ name. not (has set name)) (λ y. there set x y h (bytes_eq y x) refl) (distinct rest)))
one_into set x rest false h =
    let kept : filter (λ name. not (has set name)) (distinct (x ∷ rest)) ≡ x ∷ filter (λ name. not (has set name)) (filter (λ other. not (bytes_eq other x)) (distinct rest)) = rw h refl in
    ap (λ ns. set ++ ns) (kept ∙ ap (λ ns. x ∷ ns) (filter-filter (λ name. not (has set name)) (λ other. not (bytes_eq other x)) (distinct rest) ∙ filter_agree _ (λ name. not (has (set ++ x ∷ []) name)) (λ y. new_beside set x y) (distinct rest)))
    ∙ sym (append_assoc set (x ∷ []) (filter (λ name. not (has (set ++ x ∷ []) name)) (distinct rest)))

has_texts : (keys : List (Bor (List ℕ))) (name : List ℕ) → list_any (λ (other : Bor (List ℕ)). bytes_eq name other.now) keys ≡ has (texts keys) name
has_texts [] name = refl
has_texts (key ∷ keys) name = ap (λ b. bytes_eq name key.now || b) (has_texts keys name)

-- the keys after an insertion
texts_cond : (b : Bool) (keys : List (Bor (List ℕ))) (name : Bor (List ℕ)) → texts (cond b keys (keys ++ name ∷ [])) ≡ cond b (texts keys) (texts keys ++ name.now ∷ [])
texts_cond true keys name = refl
texts_cond false keys name = map_push (λ (n : Bor (List ℕ)). n.now) keys name

-- the next of the names goes into the set
pub next_into : (keys after names : List (Bor (List ℕ))) (i : ℕ) (d : Bor (List ℕ)) (whole : List (List ℕ)) → after ≡ cond (list_any (λ (other : Bor (List ℕ)). bytes_eq (get_or names i d).now other.now) keys) keys (keys ++ get_or names i d ∷ [])
    → and_new (texts keys) (texts (drop i names)) ≡ whole → i < length names → and_new (texts after) (texts (drop (i + 1) names)) ≡ whole
next_into keys after names i d whole e so_far lt =
    let name = get_or names i d in
    let made : texts after ≡ cond (has (texts keys) name.now) (texts keys) (texts keys ++ name.now ∷ []) =
    ap texts e ∙ (texts_cond (list_any (λ (other : Bor (List ℕ)). bytes_eq name.now other.now) keys) keys name ∙ ap (λ b. cond b (texts keys) (texts keys ++ name.now ∷ [])) (has_texts keys name.now)) in
    ap (λ s. and_new s (texts (drop (i + 1) names))) made ∙ (sym (ap (λ ns. and_new (texts keys) (texts ns)) (drop_more names i d lt) ∙ one_into (texts keys) name.now (texts (drop (i + 1) names)) _ refl) ∙ so_far)

-- with an empty set all are new
pub none_there : (names : List (List ℕ)) → and_new [] names ≡ distinct names
none_there names = all_kept (distinct names)
  where
    all_kept : (xs : List (List ℕ)) → filter (λ name. not (has [] name)) xs ≡ xs
    all_kept [] = refl
    all_kept (x ∷ xs) = ap (λ ys. x ∷ ys) (all_kept xs)

-- at the end nothing is left
pub all_there : (keys names : List (Bor (List ℕ))) (i : ℕ) (whole : List (List ℕ)) → and_new (texts keys) (texts (drop i names)) ≡ whole → length names ≤ i → texts keys ≡ whole
unfolding distinct
all_there keys names i whole so_far le = sym (ap (λ (ns : List (Bor (List ℕ))). and_new (texts keys) (texts ns)) (drop_all i names le) ∙ append-nil (texts keys)) ∙ so_far
