-- Names without repetition, each at its first place.
use Rattle.std.proofs.Common.{◌≡◌, ℕ, Bool, true, false, not, ◌&&◌, ◌||◌, cond, List, [], ◌∷◌, ◌++◌, refl, sym, ap, ◌∙◌, append_assoc, append-nil}
use Rattle.std.specs.Prelude.{filter, fold}
use Rattle.std.specs.Str.{bytes_eq}
use Rattle.std.proofs.lemmas.Bool.{false≢true}
use Rattle.std.proofs.lemmas.List.Elements.{filter_agree}
use Rattle.std.proofs.lemmas.List.Sums.{fold-append}
use Rattle.std.proofs.lemmas.Slice.Eq.{bytes_eq-Decides}
use Rattle.mk_lemmas.specs.Membership.{IsDistinct}
use Rattle.mk_lemmas.proofs.Lists.{filter-filter}
use Rattle.mk_lemmas.proofs.Members.{Has-from_filter, IsDistinct-filter}
use Rattle.mk_lemmas.proofs.Texts.{bytes_eq-sym}
use Rattle.mk_lines.specs.Names.{has_name, with_name, once}
use Rattle.mk_lines.proofs.NameTests.{has_name-push}

-- A name that is there isn't new.
pub has_name-new_there : (set : List (List ℕ)) (x y : List ℕ) → has_name set x ≡ true → (b : Bool) → bytes_eq x y ≡ b → (not b && not (has_name set y)) ≡ not (has_name set y)
has_name-new_there set x y h false e = refl
has_name-new_there set x y h true e = sym (ap not (sym (ap (has_name set) ((bytes_eq-Decides x y).0 e)) ∙ h))

-- A name is new beside one more.
pub has_name-new_push : (set : List (List ℕ)) (x y : List ℕ) → (not (bytes_eq x y) && not (has_name set y)) ≡ not (has_name (set ++ x ∷ []) y)
has_name-new_push set x y = ap (λ b. not b && not (has_name set y)) (bytes_eq-sym x y) ∙ (swap (bytes_eq y x) (has_name set y) ∙ ap not (sym (has_name-push set x y)))
  where
    swap : (a b : Bool) → (not a && not b) ≡ not (b || a)
    swap true true = refl
    swap true false = refl
    swap false true = refl
    swap false false = refl

-- The names of a set, and the new ones of a list.
abbrev pub and_new : List (List ℕ) → List (List ℕ) → List (List ℕ)
and_new set names = set ++ filter (λ name. not (has_name set name)) (once names)

-- A name goes into the set.
pub and_new-one : (set : List (List ℕ)) (x : List ℕ) (rest : List (List ℕ)) (b : Bool) → has_name set x ≡ b → and_new set (x ∷ rest) ≡ and_new (cond b set (set ++ x ∷ [])) rest
and_new-one set x rest true h =
    let skipped : filter (λ name. not (has_name set name)) (once (x ∷ rest)) ≡ filter (λ name. not (has_name set name)) (filter (λ other. not (bytes_eq x other)) (once rest)) = rw h refl in
    ap (λ ns. set ++ ns) (skipped ∙ (filter-filter (λ name. not (has_name set name)) (λ other. not (bytes_eq x other)) (once rest) ∙ filter_agree _ (λ name. not (has_name set name)) (λ y. has_name-new_there set x y h (bytes_eq x y) refl) (once rest)))
and_new-one set x rest false h =
    let kept : filter (λ name. not (has_name set name)) (once (x ∷ rest)) ≡ x ∷ filter (λ name. not (has_name set name)) (filter (λ other. not (bytes_eq x other)) (once rest)) = rw h refl in
    ap (λ ns. set ++ ns) (kept ∙ ap (λ ns. x ∷ ns) (filter-filter (λ name. not (has_name set name)) (λ other. not (bytes_eq x other)) (once rest) ∙ filter_agree _ (λ name. not (has_name (set ++ x ∷ []) name)) (λ y. has_name-new_push set x y) (once rest)))
    ∙ sym (append_assoc set (x ∷ []) (filter (λ name. not (has_name (set ++ x ∷ []) name)) (once rest)))

-- Names go into a set one after another.
pub and_new-all : (set names : List (List ℕ)) → and_new set names ≡ fold with_name set names
and_new-all set [] = append-nil set
and_new-all set (x ∷ rest) = and_new-one set x rest (has_name set x) refl ∙ and_new-all (with_name set x) rest

pub new-none_had : (xs : List (List ℕ)) → filter (λ name. not (has_name [] name)) xs ≡ xs
new-none_had [] = refl
new-none_had (x ∷ xs) = ap (λ ys. x ∷ ys) (new-none_had xs)

-- Into an empty one.
pub once-fold : (names : List (List ℕ)) → fold with_name [] names ≡ once names
once-fold names = sym (and_new-all [] names) ∙ new-none_had (once names)

-- In two parts.
pub once-fold_append : (names more : List (List ℕ)) → fold with_name (fold with_name [] names) more ≡ once (names ++ more)
once-fold_append names more = sym (fold-append with_name [] names more) ∙ once-fold (names ++ more)

-- One name more at the end.
pub once-push : (names : List (List ℕ)) (name : List ℕ) → once (names ++ name ∷ []) ≡ with_name (once names) name
once-push names name = sym (once-fold (names ++ name ∷ [])) ∙ (fold-append with_name [] names (name ∷ []) ∙ ap (λ set. with_name set name) (once-fold names))

-- No name occurs twice.
pub once-distinct : (names : List (List ℕ)) → IsDistinct (once names)
once-distinct [] = tt
once-distinct (name ∷ names) =
    (λ h. false≢true (ap not (sym ((bytes_eq-Decides name name).1 refl)) ∙ (Has-from_filter (λ other. not (bytes_eq name other)) (once names) name h).1), IsDistinct-filter (λ other. not (bytes_eq name other)) (once names) (once-distinct names))
