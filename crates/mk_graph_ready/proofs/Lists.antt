-- Lists: what stands in them, and where.
use Rattle.std.proofs.Common.{◌≡◌, ℕ, zero, suc, ◌+◌, ◌<◌, List, [], ◌∷◌, ◌++◌, length, get_or, drop, take, inl, inr, ◌⊎◌, refl, sym, ap, subst, ◌∙◌, arith, append_assoc}
use Rattle.std.proofs.lemmas.List.{drop_more, take_more}
use Rattle.mk_lemmas.proofs.Members.{Has-cases, Has-get_or, Has-left, Has-right}
use Rattle.mk_graph.specs.Membership.{Has, IsDistinct}
use Rattle.mk_graph.specs.Schedules.{HasAll}
use Rattle.mk_graph.specs.Without.{joined}

module _ {A : Type 0} where
  -- nothing stands in a list without elements
  pub is_empty : (xs : List A) → length xs ≡ 0 → xs ≡ []
  is_empty [] e = refl
  is_empty (x ∷ xs) e = absurd (omega arith)

-- what stands in a list has a place
pub place_of : (xs : List ℕ) (n : ℕ) → Has xs n → (k : ℕ) × (k < length xs) × (get_or xs k 0 ≡ n)
place_of [] n h = absurd h
place_of (x ∷ xs) n (inl here) = (0, omega arith, here)
place_of (x ∷ xs) n (inr there) = let p = place_of xs n there in (suc p.0, omega (arith, p.1), p.2)

-- where no number stands twice, equal numbers have one place
pub one_place : (xs : List ℕ) → IsDistinct xs → (i j : ℕ) → i < length xs → j < length xs → get_or xs i 0 ≡ get_or xs j 0 → i ≡ j
one_place [] d i j li lj e = absurd (omega arith)
one_place (x ∷ xs) d zero zero li lj e = refl
one_place (x ∷ xs) d zero (suc j) li lj e = absurd (d.0 (subst (λ k. Has xs k) (sym e) (Has-get_or xs j 0 (omega arith))))
one_place (x ∷ xs) d (suc i) zero li lj e = absurd (d.0 (subst (λ k. Has xs k) e (Has-get_or xs i 0 (omega arith))))
one_place (x ∷ xs) d (suc i) (suc j) li lj e = ap suc (one_place xs d.1 i j (omega arith) (omega arith) e)

-- the rest of a list has an element more
pub rest_is : (xs : List ℕ) (i n : ℕ) → i < length xs → Has (drop i xs) n → (get_or xs i 0 ≡ n) ⊎ Has (drop (i + 1) xs) n
rest_is xs i n lt h = subst (λ (l : List ℕ). Has l n) (drop_more xs i 0 lt) h

pub rest_has : (xs : List ℕ) (i n : ℕ) → i < length xs → (get_or xs i 0 ≡ n) ⊎ Has (drop (i + 1) xs) n → Has (drop i xs) n
rest_has xs i n lt h = subst (λ (l : List ℕ). Has l n) (sym (drop_more xs i 0 lt)) h

module _ (done : List ℕ) where
  pub all_has : (ns : List ℕ) (n : ℕ) → HasAll done ns → Has ns n → Has done n
  all_has [] n all h = absurd h
  all_has (m ∷ ns) n all (inl here) = subst (λ k. Has done k) here all.0
  all_has (m ∷ ns) n all (inr there) = all_has ns n all.1 there

  pub has_all : (ns : List ℕ) → ((n : ℕ) → Has ns n → Has done n) → HasAll done ns
  has_all [] h = tt
  has_all (m ∷ ns) h = (h m (inl refl), has_all ns (λ n k. h n (inr k)))

  pub all_joined : (ns ms : List ℕ) → HasAll done ns → HasAll done ms → HasAll done (ns ++ ms)
  all_joined [] ms h k = k
  all_joined (n ∷ ns) ms h k = (h.0, all_joined ns ms h.1 k)

-- all stays where more is done
pub all_more : (done more ns : List ℕ) → ((n : ℕ) → Has done n → Has more n) → HasAll done ns → HasAll more ns
all_more done more [] h all = tt
all_more done more (n ∷ ns) h all = (h n all.0, all_more done more ns h all.1)

-- the members of groups, and of more groups
pub joined_both : (xs ys : List (List ℕ)) → joined (xs ++ ys) ≡ joined xs ++ joined ys
joined_both [] ys = refl
joined_both (x ∷ xs) ys = ap (λ (l : List ℕ). x ++ l) (joined_both xs ys) ∙ sym (append_assoc x (joined xs) (joined ys))

-- one more of the first numbers
pub more_taken : (xs : List ℕ) (i n : ℕ) → i < length xs → Has (take (i + 1) xs) n → Has (take i xs) n ⊎ (get_or xs i 0 ≡ n)
more_taken xs i n lt h =
    elim (Has-cases (take i xs) (get_or xs i 0 ∷ []) n (subst (λ (l : List ℕ). Has l n) (take_more xs i 0 lt) h)) [ inl before ↦ inl before | inr now ↦ elim now [ inl is ↦ inr is | inr none ↦ absurd none ] ]

pub taken_more : (xs : List ℕ) (i n : ℕ) → i < length xs → Has (take i xs) n ⊎ (get_or xs i 0 ≡ n) → Has (take (i + 1) xs) n
taken_more xs i n lt h =
    subst (λ (l : List ℕ). Has l n) (sym (take_more xs i 0 lt)) (elim h [ inl before ↦ Has-left (take i xs) (get_or xs i 0 ∷ []) n before | inr is ↦ Has-right (take i xs) (get_or xs i 0 ∷ []) n (inl is) ])
