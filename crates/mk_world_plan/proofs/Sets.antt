-- Sets of names that grow.
use Rattle.std.proofs.Common.{◌≡◌, ℕ, ◌+◌, ◌<◌, Bool, true, false, cond, ◌||◌, List, [], ◌∷◌, ◌++◌, map, length, take, get_or, refl, sym, ap, ◌∙◌}
use Rattle.std.specs.Borrow.{Bor}
use Rattle.std.specs.Str.{bytes_eq}
use Rattle.std.specs.List.{list_any}
use Rattle.std.proofs.lemmas.List.Folds.{list_any-append, list_any_more}
use Rattle.std.proofs.lemmas.Slice.Eq.{bytes_eq-Decides}
use mathlib.Core.Bool.{or-false, or-true}
use Rattle.mk_lemmas.proofs.Texts.{texts}
use Rattle.mk_lines.specs.Names.{has_name, with_name}

-- what is there with one name more
pub has_with : (names : List (List ℕ)) (n x : List ℕ) → has_name (with_name names n) x ≡ (has_name names x || bytes_eq x n)
has_with names n x = at (has_name names n) refl
  where
    there : (b : Bool) → bytes_eq x n ≡ b → has_name names n ≡ true → has_name names x ≡ (has_name names x || b)
    there true e t = ap (has_name names) ((bytes_eq-Decides x n).0 e) ∙ (t ∙ sym (or-true (has_name names x)))
    there false e t = sym (or-false (has_name names x))

    at : (b : Bool) → has_name names n ≡ b → has_name (cond b names (names ++ n ∷ [])) x ≡ (has_name names x || bytes_eq x n)
    at true t = there (bytes_eq x n) refl t
    at false f = list_any-append (λ other. bytes_eq x other) names (n ∷ []) ∙ ap (λ b. has_name names x || b) (or-false (bytes_eq x n))

-- a name is among those that are seen of some elements
seen_any : {X : Type 0} (seen : X → List ℕ) (xs : List X) (name : List ℕ) → has_name (map seen xs) name ≡ list_any (λ x. bytes_eq name (seen x)) xs
seen_any seen [] name = refl
seen_any seen (x ∷ xs) name = ap (λ b. bytes_eq name (seen x) || b) (seen_any seen xs name)

-- one element more is looked at
pub one_more : {X : Type 0} (p : X → Bool) (xs : List X) (i : ℕ) (x : X) (old new : Bool) → x ≡ get_or xs i x → i < length xs → old ≡ list_any p (take i xs) → new ≡ (old || p x) → new ≡ list_any p (take (i + 1) xs)
one_more p xs i x old new e lt o n = n ∙ (ap (λ b. b || p x) o ∙ (ap (λ y. list_any p (take i xs) || p y) e ∙ sym (list_any_more p xs i x lt)))

-- one that doesn't pass changes nothing
pub none_more : {X : Type 0} (p : X → Bool) (xs : List X) (i : ℕ) (x : X) (old : Bool) → x ≡ get_or xs i x → i < length xs → p x ≡ false → old ≡ list_any p (take i xs) → old ≡ list_any p (take (i + 1) xs)
none_more p xs i x old e lt f o = one_more p xs i x old old e lt o (sym (ap (λ b. old || b) f ∙ or-false old))

-- one name more that is lent
pub one_lent : (names : List (Bor (List ℕ))) (i : ℕ) (other : Bor (List ℕ)) (old new : List (List ℕ))
    (name : List ℕ) → i < length names → has_name old name ≡ has_name (texts (take i names)) name → new
    ≡ with_name old (get_or names i other).now → has_name new name
    ≡ has_name (texts (take (i + 1) names)) name
one_lent names i other old new name lt so_far is =
    let among : Bor (List ℕ) → Bool = λ one. bytes_eq name one.now in
    let here = get_or names i other in
    let before = so_far ∙ seen_any (λ (one : Bor (List ℕ)). one.now) (take i names) name in
    let grown = ap (λ (set : List (List ℕ)). has_name set name) is ∙ has_with old here.now name in
    grown ∙ (ap (λ b. b || among here) before ∙ (sym (list_any_more among names i other lt) ∙ sym (seen_any (λ (one : Bor (List ℕ)). one.now) (take (i + 1) names) name)))
