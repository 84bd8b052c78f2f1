-- Which names a list has.
use Rattle.std.proofs.Common.{◌≡◌, ℕ, Bool, true, false, ◌||◌, cond, List, [], ◌∷◌, ◌++◌, inl, inr, ⊎_elim, refl, sym, ap, ◌∙◌}
use Rattle.std.specs.Str.{bytes_eq}
use Rattle.std.proofs.lemmas.Bool.{false≢true, or_cases, or_left, or_right}
use Rattle.std.proofs.lemmas.List.Folds.{list_any-append}
use Rattle.std.proofs.lemmas.Slice.Eq.{bytes_eq-Decides}
use mathlib.Core.Bool.{or-false}
use Rattle.mk_lemmas.specs.Membership.{Has}
use Rattle.mk_lines.specs.Names.{has_name}

-- The test for a name says yes of what the list has.
pub Has-from_has_name : (names : List (List ℕ)) (name : List ℕ) → has_name names name ≡ true → Has names name
Has-from_has_name [] name e = absurd (false≢true e)
Has-from_has_name (first ∷ names) name e =
    ⊎_elim (λ same. inl (sym ((bytes_eq-Decides name first).0 same))) (λ rest. inr (Has-from_has_name names name rest)) (or_cases (bytes_eq name first) (has_name names name) e)

-- And of nothing else.
pub has_name-from_Has : (names : List (List ℕ)) (name : List ℕ) → Has names name → has_name names name ≡ true
has_name-from_Has [] name h = absurd h
has_name-from_Has (first ∷ names) name (inl here) = or_left (bytes_eq name first) (has_name names name) ((bytes_eq-Decides name first).1 (sym here))
has_name-from_Has (first ∷ names) name (inr there) = or_right (bytes_eq name first) (has_name names name) (has_name-from_Has names name there)

-- A name more at the end.
pub has_name-push : (names : List (List ℕ)) (name other : List ℕ) → has_name (names ++ name ∷ []) other ≡ (has_name names other || bytes_eq other name)
has_name-push names name other = list_any-append (λ n. bytes_eq other n) names (name ∷ []) ∙ ap (λ b. has_name names other || b) (or-false (bytes_eq other name))

-- A name that is there, and another one or itself.
pub has_name-or_equal : (names : List (List ℕ)) (name other : List ℕ) → has_name names name ≡ true → (b : Bool) → bytes_eq other name ≡ b → has_name names other ≡ (has_name names other || b)
has_name-or_equal names name other h false e = sym (or-false (has_name names other))
has_name-or_equal names name other h true e =
    let same : has_name names other ≡ true = ap (has_name names) ((bytes_eq-Decides other name).0 e) ∙ h in
    same ∙ sym (ap (λ b. b || true) same)

-- A name more, unless the list has it.
pub has_name-insert : (names : List (List ℕ)) (name other : List ℕ) (b : Bool) → has_name names name ≡ b → has_name (cond b names (names ++ name ∷ [])) other ≡ (has_name names other || bytes_eq other name)
has_name-insert names name other true h = has_name-or_equal names name other h (bytes_eq other name) refl
has_name-insert names name other false h = has_name-push names name other
