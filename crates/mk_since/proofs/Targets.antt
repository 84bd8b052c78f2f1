-- Where the recipe with a target stands.
use Rattle.std.proofs.Common.{◌≡◌, ◌≤◌, ◌∙◌, ℕ, suc, ◌+◌, ◌-◌, Bool, true, false, cond, List, [], ◌∷◌, Some, None, map, get_or, refl, sym, ap, arith}
use Rattle.std.specs.Prelude.{find}
use Rattle.std.specs.Str.{bytes_eq}
use Rattle.mk_lines.specs.Names.{place_from}
use Rattle.mk_since.specs.Past.{PastRecipe}

-- the targets of recipes
abbrev pub targets : List PastRecipe → List (List ℕ)
targets = map (λ (r : PastRecipe). r.target)

module _ (q : List ℕ) where
  -- the recipe has this target
  abbrev test : PastRecipe → Bool
  test r = bytes_eq q r.target

  -- it stands where its target first does
  found_from : (n : ℕ) (rs : List PastRecipe) (place : ℕ) (d : PastRecipe) → place_from n (targets rs) q ≡ Some place → (n ≤ place) × (find test rs ≡ Some (get_or rs (place - n) d))
  unfolding place_from
  found_from n [] place d h = absurd cc
  found_from n (r ∷ rs) place d h = at (test r) refl h (found_from (n + 1) rs place d)
    where
      at : (b : Bool) → test r ≡ b → cond b (Some n) (place_from (n + 1) (targets rs) q) ≡ Some place → (place_from (n + 1) (targets rs) q ≡ Some place → (n + 1 ≤ place) × (find test rs ≡ Some (get_or rs (place - (n + 1)) d))) → (n ≤ place) × (cond b (Some r) (find test rs) ≡ Some (get_or (r ∷ rs) (place - n) d))
      at true e k ih =
          let here : n ≡ place = cc in
          let none : place - n ≡ 0 = omega arith in
          (omega arith, ap (λ i. Some (get_or (r ∷ rs) i d)) (sym none))
      at false e k ih =
          let deeper = ih k in
          let more : place - n ≡ suc (place - (n + 1)) = omega arith in
          (omega arith, deeper.1 ∙ ap (λ i. Some (get_or (r ∷ rs) i d)) (sym more))

  pub found_at : (rs : List PastRecipe) (place : ℕ) (d : PastRecipe) → place_from 0 (targets rs) q ≡ Some place → find test rs ≡ Some (get_or rs place d)
  found_at rs place d h =
      let same : place - 0 ≡ place = omega arith in
      (found_from 0 rs place d h).1 ∙ ap (λ i. Some (get_or rs i d)) same

  -- without the target there is none
  pub none_at : (n : ℕ) (rs : List PastRecipe) → place_from n (targets rs) q ≡ None → find test rs ≡ None
  unfolding place_from
  none_at n [] h = refl
  none_at n (r ∷ rs) h = at (test r) refl h (none_at (n + 1) rs)
    where
      at : (b : Bool) → test r ≡ b → cond b (Some n) (place_from (n + 1) (targets rs) q) ≡ None → (place_from (n + 1) (targets rs) q ≡ None → find test rs ≡ None) → cond b (Some r) (find test rs) ≡ None
      at true e k ih = absurd cc
      at false e k ih = ih k
