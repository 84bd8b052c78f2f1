-- Rows, one for each node, and lists of numbers that grow.
use Rattle.std.proofs.Common.{◌≡◌, ℕ, zero, suc, ◌+◌, ◌<◌, ◌≤◌, List, [], ◌∷◌, ◌++◌, length, get_or, take, refl, sym, ap, subst, ◌∙◌, ◌⊎◌, inl, inr, ⊎_elim, arith, length-append}
use Rattle.std.specs.Prelude.{◌↔◌}
use Rattle.std.proofs.lemmas.Bool.{cases_lt}
use Rattle.std.proofs.lemmas.List.{get_or_past, take_more}
use Rattle.mk_lemmas.proofs.Members.{Has-cases, Has-left, Has-right}
use Rattle.mk_graph.specs.Membership.{Has, IsDistinct}

module _ {A : Type 0} where
  -- at each number stands what is so of it
  abbrev pub RowsHold : (ℕ → A → Type 0) → List A → A → Type 0
  RowsHold P rows d = (t : ℕ) → t < length rows → P t (get_or rows t d)

  at_push : (P : ℕ → A → Type 0) (n : ℕ) (rows : List A) (a d : A) → ((t : ℕ) → t < length rows → P (n + t) (get_or rows t d)) → P (n + length rows) a → (t : ℕ) → t < suc (length rows) → P (n + t) (get_or (rows ++ a ∷ []) t d)
  at_push P n [] a d held here zero low = here
  at_push P n [] a d held here (suc t) low = absurd (omega arith)
  at_push P n (r ∷ rows) a d held here zero low = held zero (omega arith)
  at_push P n (r ∷ rows) a d held here (suc t) low =
      let next : (k : ℕ) → suc n + k ≡ n + suc k = λ k. omega arith in
      subst (λ (k : ℕ). P k (get_or (rows ++ a ∷ []) t d)) (next t)
      (at_push P (suc n) rows a d (λ k less. subst (λ (j : ℕ). P j (get_or rows k d)) (sym (next k)) (held (suc k) (omega arith))) (subst (λ (j : ℕ). P j a) (sym (next (length rows))) here) t (omega arith))

  -- a row more
  pub rows_push : (P : ℕ → A → Type 0) (rows new : List A) (a d : A) (n : ℕ) → new ≡ rows ++ a ∷ [] → n ≡ length rows → RowsHold P rows d → P n a → RowsHold P new d
  rows_push P rows new a d n pushed many held here t low =
      let zero_more : (k : ℕ) → 0 + k ≡ k = λ k. omega arith in
      let more : t < suc (length rows) = omega (arith, ap (λ (l : List A). length l) pushed, length-append rows (a ∷ [])) in
      subst (λ (l : List A). P t (get_or l t d)) (sym pushed)
      (subst (λ (k : ℕ). P k (get_or (rows ++ a ∷ []) t d)) (zero_more t)
      (at_push P 0 rows a d (λ k less. subst (λ (j : ℕ). P j (get_or rows k d)) (sym (zero_more k)) (held k less)) (subst (λ (j : ℕ). P j a) (many ∙ sym (zero_more (length rows))) here) t more))

  -- so of all numbers, where it is so of none past the end
  pub rows_all : (P : ℕ → A → Type 0) (rows : List A) (d : A) → RowsHold P rows d → ((t : ℕ) → length rows ≤ t → P t d) → (t : ℕ) → P t (get_or rows t d)
  rows_all P rows d held past t =
      ⊎_elim (λ low. held t low) (λ high. subst (λ (a : A). P t a) (sym (get_or_past rows t d high)) (past t high)) (cases_lt t (length rows))

  -- what stands among one more of a list
  pub in_push : (xs : List A) (y z : A) → Has (xs ++ y ∷ []) z → Has xs z ⊎ (y ≡ z)
  in_push xs y z h = elim (Has-cases xs (y ∷ []) z h) [ inl before ↦ inl before | inr (inl last) ↦ inr last | inr (inr none) ↦ absurd none ]

  pub in_take_more : (xs : List A) (i : ℕ) (d z : A) → i < length xs → Has (take (i + 1) xs) z ↔ (Has (take i xs) z ⊎ (get_or xs i d ≡ z))
  in_take_more xs i d z lt = (
    λ h. in_push (take i xs) (get_or xs i d) z (subst (λ (l : List A). Has l z) (take_more xs i d lt) h),
    λ h. subst (λ (l : List A). Has l z) (sym (take_more xs i d lt)) (⊎_elim (λ there. Has-left (take i xs) (get_or xs i d ∷ []) z there) (λ here. Has-right (take i xs) (get_or xs i d ∷ []) z (inl here)) h),
  )

  -- what stands at a place stands in the list
  pub at : (xs : List A) (i : ℕ) (d : A) → i < length xs → Has xs (get_or xs i d)
  at [] i d lt = absurd (omega arith)
  at (x ∷ xs) zero d lt = inl refl
  at (x ∷ xs) (suc i) d lt = inr (at xs i d (omega arith))

  -- where none stands twice, none stands before itself
  pub not_before : (xs : List A) (i : ℕ) (d : A) → IsDistinct xs → i < length xs → ¬ (Has (take i xs) (get_or xs i d))
  not_before [] i d distinct lt h = absurd (omega arith)
  not_before (x ∷ xs) zero d distinct lt h = h
  not_before (x ∷ xs) (suc i) d distinct lt (inl here) = distinct.0 (subst (λ (y : A). Has xs y) (sym here) (at xs i d (omega arith)))
  not_before (x ∷ xs) (suc i) d distinct lt (inr there) = not_before xs i d distinct.1 (omega arith) there
