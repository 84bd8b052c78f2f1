-- What is left to do falls along a walk.
use Rattle.std.proofs.Common.{◌≡◌, ℕ, ◌+◌, ◌≤◌, Bool, true, false, ◌||◌, cond, List, [], ◌∷◌, ◌++◌, length, inl, inr, refl, sym, ap, subst, ◌∙◌, arith}
use Rattle.std.specs.Str.{bytes_eq}
use Rattle.std.proofs.lemmas.Bool.{cases_Bool}
use Rattle.std.proofs.lemmas.Slice.Eq.{bytes_eq-Decides}
use Rattle.mk_lemmas.proofs.Texts.{bytes_eq-sym}
use Rattle.mk_lines.proofs.NameTests.{has_name-push}
use Rattle.mk_lines.specs.Names.{has_name}
use Rattle.mk_infer.specs.Ends.{weight}

lighter : (a c : Bool) (n : ℕ) → cond (a || c) 0 n ≤ cond a 0 n
lighter true c n = omega arith
lighter false true n = omega arith
lighter false false n = omega arith

-- a name more doesn't raise it
weight_below : (needs : List ℕ → List (List ℕ)) (met : List (List ℕ)) (name : List ℕ) (names : List (List ℕ)) → weight needs (met ++ name ∷ []) names ≤ weight needs met names
unfolding weight
weight_below needs met name [] = omega arith
weight_below needs met name (other ∷ names) =
    let n = length (needs other) in
    let first : cond (has_name (met ++ name ∷ []) other) 0 n ≤ cond (has_name met other) 0 n = subst (λ (b : Bool). cond b 0 n ≤ cond (has_name met other) 0 n) (sym (has_name-push met name other)) (lighter (has_name met other) (bytes_eq other name) n) in
    omega (arith, weight_below needs met name names)

-- a new name takes its own words off
weight_falls : (needs : List ℕ → List (List ℕ)) (met : List (List ℕ)) (name : List ℕ) (names : List (List ℕ)) → has_name met name ≡ false → has_name names name ≡ true → weight needs (met ++ name ∷ []) names + length (needs name) ≤ weight needs met names
unfolding weight
weight_falls needs met name [] h k = absurd cc
weight_falls needs met name (other ∷ names) h k = by_first (bytes_eq name other) refl k (weight_falls needs met name names h)
  where
    by_first : (b : Bool) → bytes_eq name other ≡ b → (b || has_name names name) ≡ true → (has_name names name ≡ true → weight needs (met ++ name ∷ []) names + length (needs name) ≤ weight needs met names)
        → weight needs (met ++ name ∷ []) (other ∷ names) + length (needs name) ≤ weight needs met (other ∷ names)
    by_first true t there ih =
        let same : name ≡ other = (bytes_eq-Decides name other).0 t in
        let alike : length (needs name) ≡ length (needs other) = ap (λ (n : List ℕ). length (needs n)) same in
        let unmet : has_name met other ≡ false = ap (has_name met) (sym same) ∙ h in
        let before : cond (has_name met other) 0 (length (needs other)) ≡ length (needs other) = rw unmet refl in
        let after : cond (has_name (met ++ name ∷ []) other) 0 (length (needs other)) ≡ 0 = rw (has_name-push met name other, unmet, ← bytes_eq-sym name other, t) refl in
        omega (arith, weight_below needs met name names)
    by_first false f there ih =
        let n = length (needs other) in
        let first : cond (has_name (met ++ name ∷ []) other) 0 n ≤ cond (has_name met other) 0 n = subst (λ (b : Bool). cond b 0 n ≤ cond (has_name met other) 0 n) (sym (has_name-push met name other)) (lighter (has_name met other) (bytes_eq other name) n) in
        omega (arith, ih there)

-- the names outside of these have no words
abbrev pub Covers : (List ℕ → List (List ℕ)) → List (List ℕ) → Type 0
Covers needs names = (name : List ℕ) → has_name names name ≡ false → needs name ≡ []

-- at each new name what it needs comes in place of what it weighed
pub falls : (needs : List ℕ → List (List ℕ)) (names : List (List ℕ)) → Covers needs names → (met : List (List ℕ)) (name : List ℕ) → has_name met name ≡ false → weight needs (met ++ name ∷ []) names + length (needs name) ≤ weight needs met names
unfolding weight
falls needs names covers met name h =
    elim (cases_Bool (has_name names name)) [
      | inl t ↦ weight_falls needs met name names h t
      | inr f ↦ (
          let none : length (needs name) ≡ 0 = ap length (covers name f) in
          omega (arith, weight_below needs met name names))
    ]
