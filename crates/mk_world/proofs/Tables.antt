-- What is known of names in tables.
use Rattle.std.proofs.Common.{◌≡◌, ℕ, zero, suc, ◌+◌, ◌<◌, Bool, true, false, ◌||◌, cond, List, [], ◌∷◌, length, Option, Some, None, refl, sym, ap, ◌∙◌, arith, inl, inr, get_or, set, subst}
use Rattle.std.specs.Prelude.{replicate, ◌&&◌}
use Rattle.std.proofs.lemmas.Bool.{cases_Bool, cond-true, cond-false}
use Rattle.std.proofs.lemmas.Slice.Eq.{bytes_eq-Decides}
use Rattle.std.proofs.lemmas.List.{get_or_default}
use Rattle.std.specs.Str.{bytes_eq}
use Rattle.mk_lemmas.proofs.Texts.{bytes_eq-sym}
use Rattle.mk_lines.specs.Names.{has_name, place_from}
use Rattle.mk_build.specs.Setting.{FileName}
use Rattle.mk_build.specs.World.{changed}
use Rattle.mk_world.specs.Tables.{look}

-- What holds of a name that first stands at this place.
pub record Placed (A : Type 0) (names : List FileName) (f : FileName) (j : ℕ) : Type 0 where
  pub there : has_name names f ≡ true
  pub gets : (xs : List (Option A)) → look names xs f ≡ get_or xs j None
  pub sets : (xs : List (Option A)) (v : Option A) → j < length xs → (q : FileName) → look names (set xs j v) q ≡ changed (look names xs) f v q

first_gets : {A : Type 0} (h : FileName) (names : List FileName) (f : FileName) (t : bytes_eq f h ≡ true) (xs : List (Option A)) → look (h ∷ names) xs f ≡ get_or xs 0 None
first_gets h names f t [] = refl
first_gets h names f t (x ∷ xs) = cond-true (bytes_eq f h) x (look names xs f) t

first_sets : {A : Type 0} (h : FileName) (names : List FileName) (f : FileName) (t : bytes_eq f h ≡ true) (xs : List (Option A)) (v : Option A) → 0 < length xs → (q : FileName) → look (h ∷ names) (set xs 0 v) q ≡ changed (look (h ∷ names) xs) f v q
first_sets h names f t [] v lt q = absurd (omega arith)
first_sets h names f t (x ∷ xs) v lt q =
    let same : bytes_eq q h ≡ bytes_eq f q = bytes_eq-sym q h ∙ ap (λ (n : List ℕ). bytes_eq n q) (sym ((bytes_eq-Decides f h).0 t)) in
    elim (cases_Bool (bytes_eq q h)) [
      | inl e ↦ cond-true (bytes_eq q h) v (look names xs q) e ∙ sym (cond-true (bytes_eq f q) v _ (sym same ∙ e))
      | inr e ↦ cond-false (bytes_eq q h) v (look names xs q) e ∙ sym (cond-false (bytes_eq f q) v _ (sym same ∙ e) ∙ cond-false (bytes_eq q h) x (look names xs q) e)
    ]

next_gets : {A : Type 0} (h : FileName) (names : List FileName) (f : FileName) (e : bytes_eq f h ≡ false) (j : ℕ) → Placed A names f j → (xs : List (Option A)) → look (h ∷ names) xs f ≡ get_or xs (suc j) None
next_gets h names f e j p [] = refl
next_gets h names f e j p (x ∷ xs) = cond-false (bytes_eq f h) x (look names xs f) e ∙ p.gets xs

next_sets : {A : Type 0} (h : FileName) (names : List FileName) (f : FileName) (e : bytes_eq f h ≡ false) (j : ℕ) → Placed A names f j → (xs : List (Option A)) (v : Option A) → suc j < length xs → (q : FileName) → look (h ∷ names) (set xs (suc j) v) q ≡ changed (look (h ∷ names) xs) f v q
next_sets h names f e j p [] v lt q = absurd (omega arith)
next_sets h names f e j p (x ∷ xs) v lt q =
    elim (cases_Bool (bytes_eq q h)) [
      | inl t ↦ cond-true (bytes_eq q h) x (look names (set xs j v) q) t ∙ sym (cond-false (bytes_eq f q) v _ (ap (λ (n : List ℕ). bytes_eq f n) ((bytes_eq-Decides q h).0 t) ∙ e) ∙ cond-true (bytes_eq q h) x (look names xs q) t)
      | inr n ↦ cond-false (bytes_eq q h) x (look names (set xs j v) q) n ∙ (p.sets xs v (omega arith) q ∙ ap (λ o. cond (bytes_eq f q) v o) (sym (cond-false (bytes_eq q h) x (look names xs q) n)))
    ]

-- where a name first stands, what is known of it stands too
placed_from : (A : Type 0) (n : ℕ) (names : List FileName) (f : FileName) (i : ℕ) → place_from n names f ≡ Some i → (j : ℕ) × (i ≡ n + j) × Placed A names f j
unfolding place_from
placed_from A n [] f i e = absurd cc
placed_from A n (h ∷ names) f i e = at (bytes_eq f h) refl e (placed_from A (n + 1) names f i)
  where
    at : (b : Bool) → bytes_eq f h ≡ b → cond b (Some n) (place_from (n + 1) names f) ≡ Some i → (place_from (n + 1) names f ≡ Some i → (j : ℕ) × (i ≡ n + 1 + j) × Placed A names f j) → (j : ℕ) × (i ≡ n + j) × Placed A (h ∷ names) f j
    at true t k ih =
        let here : n ≡ i = cc in
        (0, omega arith, record { there = ap (λ b. b || has_name names f) t; gets = first_gets h names f t; sets = first_sets h names f t })
    at false t k ih =
        let deep = ih k in
        let is = deep.1 in
        (suc deep.0, omega arith, record { there = ap (λ b. b || has_name names f) t ∙ deep.2.there; gets = next_gets h names f t deep.0 deep.2; sets = next_sets h names f t deep.0 deep.2 })

pub placed : (A : Type 0) (names : List FileName) (f : FileName) (i : ℕ) → place_from 0 names f ≡ Some i → Placed A names f i
placed A names f i e =
    let deep = placed_from A 0 names f i e in
    subst (Placed A names f) (omega (arith, deep.1)) deep.2

-- of a name without a place nothing is known
not_there : {A : Type 0} (h : FileName) (names : List FileName) (f : FileName) (xs : List (Option A)) → bytes_eq f h ≡ false → ((ys : List (Option A)) → look names ys f ≡ None) → look (h ∷ names) xs f ≡ None
not_there h names f [] e rest = refl
not_there h names f (x ∷ xs) e rest = cond-false (bytes_eq f h) x (look names xs f) e ∙ rest xs

no_names : {A : Type 0} (f : FileName) (xs : List (Option A)) → look [] xs f ≡ None
no_names f [] = refl
no_names f (x ∷ xs) = refl

unplaced_from : (A : Type 0) (n : ℕ) (names : List FileName) (f : FileName) → place_from n names f ≡ None → (has_name names f ≡ false) × ((xs : List (Option A)) → look names xs f ≡ None)
unfolding place_from
unplaced_from A n [] f e = (refl, no_names f)
unplaced_from A n (h ∷ names) f e = at (bytes_eq f h) refl e (unplaced_from A (n + 1) names f)
  where
    at : (b : Bool) → bytes_eq f h ≡ b → cond b (Some n) (place_from (n + 1) names f) ≡ None
        → (place_from (n + 1) names f ≡ None → (has_name names f ≡ false)
        × ((xs : List (Option A)) → look names xs f ≡ None)) → (has_name (h ∷ names) f ≡ false)
        × ((xs : List (Option A)) → look (h ∷ names) xs f ≡ None)
    at true t k ih = absurd cc
    at false t k ih =
        let rest = ih k in
        (ap (λ b. b || has_name names f) t ∙ rest.0, λ xs. not_there h names f xs t rest.1)

pub unplaced : (A : Type 0) (names : List FileName) (f : FileName) → place_from 0 names f ≡ None → (has_name names f ≡ false) × ((xs : List (Option A)) → look names xs f ≡ None)
unplaced A names f e = unplaced_from A 0 names f e

-- nothing is known yet
pub look_nothing : {A : Type 0} (names : List FileName) (n : ℕ) (f : FileName) → look {A = A} names (replicate n None) f ≡ None
look_nothing names zero f = refl
look_nothing [] (suc n) f = refl
look_nothing {A = A} (h ∷ names) (suc n) f = at (bytes_eq f h) (look_nothing names n f)
  where
    at : (b : Bool) → look {A = A} names (replicate n None) f ≡ None → cond b None (look {A = A} names (replicate n None) f) ≡ None
    at true e = refl
    at false e = e

-- what stands at the place is what is known
pub get_is : (A : Type 0) (names : List FileName) (xs : List (Option A)) (f : FileName) (i : ℕ) (x : Option A) → place_from 0 names f ≡ Some i → length xs ≡ length names → i < length names → x ≡ get_or xs i x → x ≡ look names xs f
get_is A names xs f i x at many lt is = is ∙ (get_or_default xs i x None (omega arith) ∙ sym ((placed A names f i at).gets xs))

-- a mapped change is a change of what is mapped
pub map_changed : {A B : Type 0} (F : A → B) (at : FileName → A) (f : FileName) (x : A) (q : FileName) → F (changed at f x q) ≡ changed (λ h. F (at h)) f (F x) q
map_changed F at f x q = both (bytes_eq f q)
  where
    both : (b : Bool) → F (cond b x (at q)) ≡ cond b (F x) (F (at q))
    both true = refl
    both false = refl

-- of two tests that hold the first does
pub first_true : (a b : Bool) → (a && b) ≡ true → a ≡ true
first_true true b e = refl
first_true false b e = absurd cc
