-- Outcomes that are looked up.
use Rattle.std.proofs.Common.{◌≡◌, ℕ, Bool, true, false, cond, List, [], ◌∷◌, ◌++◌, Option, Some, None, Vec, Global, map, reverse, refl, sym, ap, ◌∙◌}
use Rattle.std.specs.Prelude.{option_map, nat_eq, ◌&&◌}
use Rattle.std.proofs.lemmas.Bool.{eqb-true, eq-eqb, and_parts}
use Rattle.mk_build.specs.World.{outcome, same_seen}
use Rattle.std.specs.Map.{lookup}
use Rattle.std.proofs.lemmas.List.{map_push, reverse-append}
use Rattle.indexmap.specs.IndexMap.{insert_entry}
use Rattle.mk_build.proofs.Outcomes.{same_seen-Decides}
use Rattle.mk_world.specs.declared.outcomes.Sight.{Sight}
use Rattle.mk_world.specs.Known.{outcome_of, outcomes_of, is_same, AreFound}

-- a new key goes to the end
pub inserted_last : (eq : Sight → Sight → Bool) (es : List (Sight × Vec ℕ Global)) (k : Sight) (w : Vec ℕ Global) → lookup (eq k) es ≡ None → insert_entry eq es k w ≡ es ++ (k, w) ∷ []
inserted_last eq [] k w e = refl
inserted_last eq (x ∷ es) k w e = at (eq k x.0) e (inserted_last eq es k w)
  where
    at : (b : Bool) → cond b (Some x.1) (lookup (eq k) es) ≡ None → (lookup (eq k) es ≡ None → insert_entry eq es k w ≡ es ++ (k, w) ∷ []) → cond b ((x.0, w) ∷ es) (x ∷ insert_entry eq es k w) ≡ x ∷ (es ++ (k, w) ∷ [])
    at true n ih = absurd cc
    at false n ih = ap (λ xs. x ∷ xs) (ih n)

-- so its outcome comes first
pub comes_first : (es : List (Sight × Vec ℕ Global)) (k : Sight) (w : Vec ℕ Global) → outcomes_of (es ++ (k, w) ∷ []) ≡ outcome_of (k, w) ∷ outcomes_of es
comes_first es k w = ap reverse (map_push outcome_of es (k, w)) ∙ reverse-append (map outcome_of es) (outcome_of (k, w) ∷ [])

some_none : {A : Type 0} (x : A) → Some x ≡ None → ⊥
some_none x e = absurd cc

-- what is found behind one more entry
found_last : (test : Sight → Bool) (es : List (Sight × Vec ℕ Global)) (k : Sight) (w : Vec ℕ Global) → (test k ≡ true → lookup test es ≡ None) → lookup test (es ++ (k, w) ∷ []) ≡ cond (test k) (Some w) (lookup test es)
found_last test [] k w h = refl
found_last test (x ∷ es) k w h = at (test x.0) (test k) h (found_last test es k w)
  where
    at : (b t : Bool) → (t ≡ true → cond b (Some x.1) (lookup test es) ≡ None) → ((t ≡ true → lookup test es ≡ None) → lookup test (es ++ (k, w) ∷ []) ≡ cond t (Some w) (lookup test es))
        → cond b (Some x.1) (lookup test (es ++ (k, w) ∷ [])) ≡ cond t (Some w) (cond b (Some x.1) (lookup test es))
    at true true n ih = absurd (some_none x.1 (n refl))
    at true false n ih = refl
    at false t n ih = ih n

-- the test reads the same from both sides
turned : (t : ℕ) (seen : List (Option ℕ)) (k : Sight) → is_same t seen k ≡ (nat_eq k.recipe t && same_seen k.seen.items seen)
turned t seen k = bool_eq (is_same t seen k) (nat_eq k.recipe t && same_seen k.seen.items seen)
    (λ e. let two = and_parts (nat_eq t k.recipe) (same_seen seen k.seen.items) e in ap (λ b. b && same_seen k.seen.items seen) (eq-eqb k.recipe t (sym (eqb-true t k.recipe two.0))) ∙ (same_seen-Decides k.seen.items seen).1 (sym ((same_seen-Decides seen k.seen.items).0 two.1)))
    (λ e. let two = and_parts (nat_eq k.recipe t) (same_seen k.seen.items seen) e in ap (λ b. b && same_seen seen k.seen.items) (eq-eqb t k.recipe (sym (eqb-true k.recipe t two.0))) ∙ (same_seen-Decides seen k.seen.items).1 (sym ((same_seen-Decides k.seen.items seen).0 two.1)))
  where
    bool_eq : (a b : Bool) → (a ≡ true → b ≡ true) → (b ≡ true → a ≡ true) → a ≡ b
    bool_eq true b f h = sym (f refl)
    bool_eq false true f h = h refl
    bool_eq false false f h = refl

-- one more entry, of which nothing was known, is found too
pub still_found : (es : List (Sight × Vec ℕ Global)) (k : Sight) (w : Vec ℕ Global) → AreFound es → outcome (outcomes_of es) k.recipe k.seen.items ≡ None → AreFound (es ++ (k, w) ∷ [])
still_found es k w found new t seen =
    let none : lookup (is_same k.recipe k.seen.items) es ≡ None = nothing (lookup (is_same k.recipe k.seen.items) es) (found k.recipe k.seen.items ∙ new) in
    let alike : is_same t seen k ≡ true → lookup (is_same t seen) es ≡ None = λ e.
    let two = and_parts (nat_eq t k.recipe) (same_seen seen k.seen.items) e in
    let at : t ≡ k.recipe = eqb-true t k.recipe two.0 in
    let saw : seen ≡ k.seen.items = (same_seen-Decides seen k.seen.items).0 two.1 in
    ap (λ (n : ℕ). lookup (is_same n seen) es) at ∙ (ap (λ (s : List (Option ℕ)). lookup (is_same k.recipe s) es) saw ∙ none) in
    ap (option_map (λ (v : Vec ℕ Global). v.items)) (found_last (is_same t seen) es k w alike)
    ∙ (pushed (is_same t seen k) (lookup (is_same t seen) es)
    ∙ (ap (λ o. cond (is_same t seen k) (Some w.items) o) (found t seen) ∙ (ap (λ b. cond b (Some w.items) (outcome (outcomes_of es) t seen)) (turned t seen k) ∙ sym (ap (λ os. outcome os t seen) (comes_first es k w)))))
  where
    nothing : (o : Option (Vec ℕ Global)) → option_map (λ (v : Vec ℕ Global). v.items) o ≡ None → o ≡ None
    nothing None e = refl
    nothing (Some v) e = absurd cc

    pushed : (b : Bool) (o : Option (Vec ℕ Global)) → option_map (λ (v : Vec ℕ Global). v.items) (cond b (Some w) o) ≡ cond b (Some w.items) (option_map (λ (v : Vec ℕ Global). v.items) o)
    pushed true o = refl
    pushed false o = refl

-- what isn't known isn't found
pub none_found : (es : List (Sight × Vec ℕ Global)) (k : Sight) → AreFound es → outcome (outcomes_of es) k.recipe k.seen.items ≡ None → lookup (is_same k.recipe k.seen.items) es ≡ None
none_found es k found new = nothing (lookup (is_same k.recipe k.seen.items) es) (found k.recipe k.seen.items ∙ new)
  where
    nothing : (o : Option (Vec ℕ Global)) → option_map (λ (v : Vec ℕ Global). v.items) o ≡ None → o ≡ None
    nothing None e = refl
    nothing (Some v) e = absurd cc
