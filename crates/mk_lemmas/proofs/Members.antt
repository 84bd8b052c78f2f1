-- What stands in lists that are joined, mapped, flattened, filtered or searched.
use Rattle.std.proofs.Common.{◌≡◌, ℕ, ◌<◌, ◌≤◌, zero, suc, Bool, true, false, ◌&&◌, cond, eqb, List, [], ◌∷◌, ◌++◌, map, length, reverse, get_or, All, Option, Some, None, ◌⊎◌, inl, inr, ⊎_elim, refl, sym, ap, ◌∙◌, subst, arith, eqb-true, eq-eqb}
use Rattle.std.specs.Prelude.{filter, find}
use Rattle.std.specs.List.{AllByRecursion, IsDistinct as HasNoEqualPair, flat_map, list_any, list_all}
use Rattle.std.proofs.lemmas.Bool.{false≢true, and_parts, or_cases, or_left, or_right, cases_Bool, false_from_ne_true, ne_eqb}
use Rattle.std.proofs.lemmas.Map.Steps.{length-le_from_distinct_below}
use mathlib.Core.List.{reverse-cons}
use Rattle.mk_lemmas.specs.Membership.{Has, has, IsDistinct}

-- Joined lists.
module _ {A : Type 0} where
  -- A member of the first list is a member of the joined list.
  pub Has-left : (xs ys : List A) (x : A) → Has xs x → Has (xs ++ ys) x
  Has-left [] ys x h = absurd h
  Has-left (y ∷ xs) ys x (inl here) = inl here
  Has-left (y ∷ xs) ys x (inr there) = inr (Has-left xs ys x there)

  -- A member of the second list is a member of the joined list.
  pub Has-right : (xs ys : List A) (x : A) → Has ys x → Has (xs ++ ys) x
  Has-right [] ys x h = h
  Has-right (y ∷ xs) ys x h = inr (Has-right xs ys x h)

  -- A member of the joined list is a member of one of the two.
  pub Has-cases : (xs ys : List A) (x : A) → Has (xs ++ ys) x → Has xs x ⊎ Has ys x
  Has-cases [] ys x h = inr h
  Has-cases (y ∷ xs) ys x (inl here) = inl (inl here)
  Has-cases (y ∷ xs) ys x (inr there) = elim (Has-cases xs ys x there) [ inl h ↦ inl (inr h) | inr h ↦ inr h ]

  -- Two lists without repeats and with nothing in common.
  pub IsDistinct-append : (xs ys : List A) → IsDistinct xs → IsDistinct ys → ((x : A) → Has xs x → ¬ (Has ys x)) → IsDistinct (xs ++ ys)
  IsDistinct-append [] ys d e out = e
  IsDistinct-append (x ∷ xs) ys d e out = (λ h. elim (Has-cases xs ys x h) [ inl before ↦ d.0 before | inr behind ↦ out x (inl refl) behind ], IsDistinct-append xs ys d.1 e (λ y h. out y (inr h)))

  -- A list without repeats and one more element behind it.
  pub IsDistinct-push : (xs : List A) (x : A) → ¬ (Has xs x) → IsDistinct xs → IsDistinct (xs ++ x ∷ [])
  IsDistinct-push [] x out d = (λ h. h, tt)
  IsDistinct-push (y ∷ xs) x out d = (λ h. elim (Has-cases xs (x ∷ []) y h) [ inl before ↦ d.0 before | inr (inl last) ↦ out (inl (sym last)) | inr (inr none) ↦ none ], IsDistinct-push xs x (λ h. out (inr h)) d.1)

  -- The element at a place.
  pub Has-get_or : (xs : List A) (i : ℕ) (d : A) → i < length xs → Has xs (get_or xs i d)
  Has-get_or [] i d within = absurd (omega arith)
  Has-get_or (x ∷ xs) zero d within = inl refl
  Has-get_or (x ∷ xs) (suc i) d within = inr (Has-get_or xs i d (omega arith))

  -- A list that is there under a condition alone.
  pub Has-from_then : (b : Bool) (xs : List A) (x : A) → Has (cond b xs []) x → (b ≡ true) × Has xs x
  Has-from_then true xs x h = (refl, h)
  Has-from_then false xs x h = absurd h

  pub Has-then : (b : Bool) (xs : List A) (x : A) → b ≡ true → Has xs x → Has (cond b xs []) x
  Has-then b xs x e h = subst (λ (c : Bool). Has (cond c xs []) x) (sym e) h

  -- A list that is there otherwise.
  pub Has-from_else : (b : Bool) (xs : List A) (x : A) → Has (cond b [] xs) x → (b ≡ false) × Has xs x
  Has-from_else true xs x h = absurd h
  Has-from_else false xs x h = (refl, h)

  pub Has-else : (b : Bool) (xs : List A) (x : A) → b ≡ false → Has xs x → Has (cond b [] xs) x
  Has-else b xs x e h = subst (λ (c : Bool). Has (cond c [] xs) x) (sym e) h

-- Mapped lists.
module _ {A B : Type 0} (f : A → B) where
  -- The image of a member is a member of the mapped list.
  pub Has-map : (xs : List A) (x : A) → Has xs x → Has (map f xs) (f x)
  Has-map [] x h = absurd h
  Has-map (k ∷ xs) x (inl here) = inl (ap f here)
  Has-map (k ∷ xs) x (inr there) = inr (Has-map xs x there)

  -- A member of the mapped list is the image of some member.
  pub Has-from_map : (xs : List A) (y : B) → Has (map f xs) y → (x : A) × Has xs x × (f x ≡ y)
  Has-from_map [] y h = absurd h
  Has-from_map (x ∷ xs) y (inl here) = (x, inl refl, here)
  Has-from_map (x ∷ xs) y (inr there) = let rest = Has-from_map xs y there in (rest.0, inr rest.1, rest.2)

  -- Without repeats.
  pub IsDistinct-map : ((x y : A) → f x ≡ f y → x ≡ y) → (xs : List A) → IsDistinct xs → IsDistinct (map f xs)
  IsDistinct-map apart [] d = tt
  IsDistinct-map apart (x ∷ xs) d = (λ h. let at = Has-from_map xs (f x) h in d.0 (subst (λ (y : A). Has xs y) (apart at.0 x at.2) at.1), IsDistinct-map apart xs d.1)

-- Flattened lists.
module _ {A B : Type 0} (f : A → List B) where
  -- A member of the list of some element is a member of the flattened list.
  pub Has-flat_map : (xs : List A) (x : A) (y : B) → Has xs x → Has (f x) y → Has (flat_map f xs) y
  Has-flat_map [] x y h in_x = absurd h
  Has-flat_map (k ∷ xs) x y (inl here) in_x = Has-left (f k) (flat_map f xs) y (subst (λ (j : A). Has (f j) y) (sym here) in_x)
  Has-flat_map (k ∷ xs) x y (inr there) in_x = Has-right (f k) (flat_map f xs) y (Has-flat_map xs x y there in_x)

  -- A member of the flattened list is a member of the list of some element.
  pub Has-from_flat_map : (xs : List A) (y : B) → Has (flat_map f xs) y → (x : A) × Has xs x × Has (f x) y
  Has-from_flat_map [] y h = absurd h
  Has-from_flat_map (x ∷ xs) y h =
      elim (Has-cases (f x) (flat_map f xs) y h) [
        | inl here ↦ (x, inl refl, here)
        | inr there ↦ (let rest = Has-from_flat_map xs y there in (rest.0, inr rest.1, rest.2))
      ]

-- Lists of what passes a test, and what a search finds.
module _ {A : Type 0} (test : A → Bool) where
  -- What is kept passes.
  pub Has-from_filter : (xs : List A) (x : A) → Has (filter test xs) x → Has xs x × (test x ≡ true)
  Has-from_filter [] x h = absurd h
  Has-from_filter (y ∷ xs) x h = by (test y) refl (Has-from_filter xs x) h
    where
      by : (b : Bool) → test y ≡ b → (Has (filter test xs) x → Has xs x × (test x ≡ true)) → Has (cond b (y ∷ filter test xs) (filter test xs)) x → Has (y ∷ xs) x × (test x ≡ true)
      by true e on (inl here) = (inl here, ap test (sym here) ∙ e)
      by true e on (inr there) = let rest = on there in (inr rest.0, rest.1)
      by false e on there = let rest = on there in (inr rest.0, rest.1)

  -- What passes is kept.
  pub Has-filter : (xs : List A) (x : A) → Has xs x → test x ≡ true → Has (filter test xs) x
  Has-filter [] x h e = absurd h
  Has-filter (y ∷ xs) x h e = by (test y) refl (λ there. Has-filter xs x there e) h
    where
      by : (b : Bool) → test y ≡ b → (Has xs x → Has (filter test xs) x) → Has (y ∷ xs) x → Has (cond b (y ∷ filter test xs) (filter test xs)) x
      by true f on (inl here) = inl here
      by true f on (inr there) = inr (on there)
      by false f on (inl here) = absurd (false≢true (sym f ∙ (ap test here ∙ e)))
      by false f on (inr there) = on there

  -- Without repeats.
  pub IsDistinct-filter : (xs : List A) → IsDistinct xs → IsDistinct (filter test xs)
  IsDistinct-filter [] d = tt
  IsDistinct-filter (y ∷ xs) d = by (test y) (IsDistinct-filter xs d.1)
    where
      by : (b : Bool) → IsDistinct (filter test xs) → IsDistinct (cond b (y ∷ filter test xs) (filter test xs))
      by true rest = (λ h. d.0 (Has-from_filter xs y h).0, rest)
      by false rest = rest

  -- Where all pass, each one does.
  pub list_all-Has : (xs : List A) (x : A) → list_all test xs ≡ true → Has xs x → test x ≡ true
  list_all-Has [] x h k = absurd k
  list_all-Has (y ∷ xs) x h (inl e) = ap test (sym e) ∙ (and_parts (test y) (list_all test xs) h).0
  list_all-Has (y ∷ xs) x h (inr k) = list_all-Has xs x (and_parts (test y) (list_all test xs) h).1 k

  -- What is found stands there and passes.
  pub find-Has : (xs : List A) (x : A) → find test xs ≡ Some x → Has xs x × (test x ≡ true)
  find-Has [] x h = absurd cc
  find-Has (y ∷ xs) x h = at (test y) refl h (find-Has xs x)
    where
      at : (b : Bool) → test y ≡ b → cond b (Some y) (find test xs) ≡ Some x → (find test xs ≡ Some x → Has xs x × (test x ≡ true)) → Has (y ∷ xs) x × (test x ≡ true)
      at true e k ih = let same : y ≡ x = cc in (inl same, ap test (sym same) ∙ e)
      at false e k ih = let r = ih k in (inr r.0, r.1)

  -- Where none passes, none is found.
  pub find-none : (xs : List A) → ((x : A) → Has xs x → test x ≡ false) → find test xs ≡ None
  find-none [] none = refl
  find-none (x ∷ xs) none = ap (λ (b : Bool). cond b (Some x) (find test xs)) (none x (inl refl)) ∙ find-none xs (λ y k. none y (inr k))

-- Lists of numbers.

-- The test says yes only of what stands in the list.
pub Has-from_has : (ns : List ℕ) (n : ℕ) → has ns n ≡ true → Has ns n
Has-from_has [] n e = absurd (false≢true e)
Has-from_has (m ∷ ms) n e = ⊎_elim (λ here. inl (eqb-true m n here)) (λ there. inr (Has-from_has ms n there)) (or_cases (eqb m n) (has ms n) e)

-- The test says yes of all that stands in the list.
pub has-from_Has : (ns : List ℕ) (n : ℕ) → Has ns n → has ns n ≡ true
has-from_Has [] n h = absurd h
has-from_Has (m ∷ ms) n (inl here) = or_left (eqb m n) (has ms n) (eq-eqb m n here)
has-from_Has (m ∷ ms) n (inr there) = or_right (eqb m n) (has ms n) (has-from_Has ms n there)

-- The test says no of what doesn't stand in the list.
pub has-from_not : (ns : List ℕ) (n : ℕ) → ¬ (Has ns n) → has ns n ≡ false
has-from_not ns n h = false_from_ne_true (has ns n) (λ e. h (Has-from_has ns n e))

-- Where the test says no, it doesn't stand in the list.
pub not-from_has : (ns : List ℕ) (n : ℕ) → has ns n ≡ false → ¬ (Has ns n)
not-from_has ns n e h = false≢true (sym e ∙ has-from_Has ns n h)

-- A number stands in a list or doesn't.
pub cases_Has : (ns : List ℕ) (n : ℕ) → Has ns n ⊎ (¬ (Has ns n))
cases_Has ns n = ⊎_elim (λ e. inl (Has-from_has ns n e)) (λ e. inr (not-from_has ns n e)) (cases_Bool (has ns n))

-- In a reversed list.
pub Has-reverse : (xs : List ℕ) (n : ℕ) → Has xs n → Has (reverse xs) n
Has-reverse [] n h = absurd h
Has-reverse (x ∷ xs) n (inl here) = subst (λ (l : List ℕ). Has l n) (sym (reverse-cons x xs)) (Has-right (reverse xs) (x ∷ []) n (inl here))
Has-reverse (x ∷ xs) n (inr there) = subst (λ (l : List ℕ). Has l n) (sym (reverse-cons x xs)) (Has-left (reverse xs) (x ∷ []) n (Has-reverse xs n there))

-- And the other way round.
pub Has-from_reverse : (xs : List ℕ) (n : ℕ) → Has (reverse xs) n → Has xs n
Has-from_reverse [] n h = absurd h
Has-from_reverse (x ∷ xs) n h =
    elim (Has-cases (reverse xs) (x ∷ []) n (subst (λ (l : List ℕ). Has l n) (reverse-cons x xs) h)) [ inl before ↦ inr (Has-from_reverse xs n before) | inr (inl last) ↦ inl last | inr (inr none) ↦ absurd none ]

-- The test of a reversed list.
pub has-reverse : (xs : List ℕ) (n : ℕ) → has (reverse xs) n ≡ has xs n
has-reverse xs n =
    ⊎_elim (λ h. has-from_Has (reverse xs) n (Has-reverse xs n h) ∙ sym (has-from_Has xs n h)) (λ h. has-from_not (reverse xs) n (λ r. h (Has-from_reverse xs n r)) ∙ sym (has-from_not xs n h)) (cases_Has xs n)

-- A reversed list without repeats has none.
pub IsDistinct-reverse : (xs : List ℕ) → IsDistinct xs → IsDistinct (reverse xs)
IsDistinct-reverse [] d = tt
IsDistinct-reverse (x ∷ xs) d = subst (λ (l : List ℕ). IsDistinct l) (sym (reverse-cons x xs)) (IsDistinct-push (reverse xs) x (λ h. d.0 (Has-from_reverse xs x h)) (IsDistinct-reverse xs d.1))

-- A number that isn't in the list differs from each that is.
pub AllByRecursion-differ : (n : ℕ) (ns : List ℕ) → ¬ (Has ns n) → AllByRecursion (λ m. eqb n m ≡ false) ns
AllByRecursion-differ n [] out = tt
AllByRecursion-differ n (m ∷ ms) out = (ne_eqb n m (λ e. out (inl (sym e))), AllByRecursion-differ n ms (λ h. out (inr h)))

-- The same in the words of the maps' lemmas.
pub HasNoEqualPair-from_IsDistinct : (ns : List ℕ) → IsDistinct ns → HasNoEqualPair eqb ns
unfolding HasNoEqualPair
HasNoEqualPair-from_IsDistinct [] d = tt
HasNoEqualPair-from_IsDistinct (n ∷ ns) d = (AllByRecursion-differ n ns d.0, HasNoEqualPair-from_IsDistinct ns d.1)

-- A number that equals some element is one.
pub Has-from_any : (ns : List ℕ) (n : ℕ) → list_any (eqb n) ns ≡ true → Has ns n
Has-from_any [] n e = absurd (false≢true e)
Has-from_any (m ∷ ms) n e = ⊎_elim (λ here. inl (sym (eqb-true n m here))) (λ there. inr (Has-from_any ms n there)) (or_cases (eqb n m) (list_any (eqb n) ms) e)

-- Numbers below a bound of which none repeats are at most so many.
pub length-le_distinct : (ns : List ℕ) (bound : ℕ) → IsDistinct ns → ((n : ℕ) → Has ns n → n < bound) → length ns ≤ bound
length-le_distinct ns bound d low = length-le_from_distinct_below ns bound (HasNoEqualPair-from_IsDistinct ns d) (λ n e. low n (Has-from_any ns n e))

-- What holds of all that stands in the list holds at each place.
pub All-from_Has : (P : ℕ → Type 0) (xs : List ℕ) → ((n : ℕ) → Has xs n → P n) → All P xs
All-from_Has P xs h k d within = h (get_or xs k d) (Has-get_or xs k d within)
