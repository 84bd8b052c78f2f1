-- What stands in joined and mapped lists, and at which place.
use Rattle.std.proofs.Common.{◌≡◌, ℕ, ◌<◌, zero, suc, eqb, List, [], ◌∷◌, ◌++◌, length, map, get_or, ◌⊎◌, inl, inr, refl, sym, ◌∙◌, ap, subst, arith, eqb-true, eq-eqb}
use Rattle.std.proofs.lemmas.Bool.{cases_Bool, cond-true, cond-false, false≢true, ne_eqb}
use Rattle.mk_lemmas.proofs.Members.{Has-get_or, Has-map}
use Rattle.mk_graph.specs.Membership.{Has, IsDistinct}
use Rattle.mk_graph_search.specs.Ways.{place}

-- in two joined lists
module _ {A : Type 0} where
  -- what stands in a list cuts it in two
  pub cut_at : (xs : List A) (x : A) → Has xs x → (front : List A) × (back : List A) × (xs ≡ front ++ x ∷ back)
  cut_at [] x h = absurd h
  cut_at (y ∷ xs) x (inl here) = ([], xs, ap (λ (k : A). k ∷ xs) here)
  cut_at (y ∷ xs) x (inr there) = let cut = cut_at xs x there in (y ∷ cut.0, cut.1, ap (λ (l : List A). y ∷ l) cut.2)

  -- so does what stands at a place
  pub cut_at_place : (xs : List A) (k : ℕ) (d : A) → k < length xs → (front : List A) × (back : List A) × (xs ≡ front ++ get_or xs k d ∷ back) × (length front ≡ k)
  cut_at_place [] k d h = absurd (omega arith)
  cut_at_place (x ∷ xs) zero d h = ([], xs, refl, refl)
  cut_at_place (x ∷ xs) (suc k) d h = let cut = cut_at_place xs k d (omega arith) in (x ∷ cut.0, cut.1, ap (λ (l : List A). x ∷ l) cut.2, ap suc cut.3)

  -- equal lists have equal heads
  pub head_is : (x y : A) (xs ys : List A) → x ∷ xs ≡ y ∷ ys → x ≡ y
  head_is x y xs ys e = cc

  -- the element behind a list
  pub at_length : (xs ys : List A) (x d : A) → get_or (xs ++ x ∷ ys) (length xs) d ≡ x
  at_length [] ys x d = refl
  at_length (y ∷ xs) ys x d = at_length xs ys x d

  -- the same at an equal number
  pub at_place : (xs ys : List A) (x d : A) (k : ℕ) → length xs ≡ k → get_or (xs ++ x ∷ ys) k d ≡ x
  at_place xs ys x d k e = subst (λ (j : ℕ). get_or (xs ++ x ∷ ys) j d ≡ x) e (at_length xs ys x d)

  -- at a place before the end of the first of two lists
  pub at_front : (xs ys : List A) (k : ℕ) (d : A) → k < length xs → get_or (xs ++ ys) k d ≡ get_or xs k d
  at_front [] ys k d h = absurd (omega arith)
  at_front (x ∷ xs) ys zero d h = refl
  at_front (x ∷ xs) ys (suc k) d h = at_front xs ys k d (omega arith)

-- in a mapped list
module _ {A B : Type 0} (f : A → B) where
  -- a place of a mapped list
  pub at_mapped : (xs : List A) (k : ℕ) (d : A) (e : B) → k < length xs → get_or (map f xs) k e ≡ f (get_or xs k d)
  at_mapped [] k d e h = absurd (omega arith)
  at_mapped (x ∷ xs) zero d e h = refl
  at_mapped (x ∷ xs) (suc k) d e h = at_mapped xs k d e (omega arith)

  -- two elements that are taken to one stand at one place, where no two places are taken to one
  pub apart_from : (xs : List A) → IsDistinct (map f xs) → (x y : A) → Has xs x → Has xs y → f x ≡ f y → x ≡ y
  apart_from [] d x y h k e = absurd h
  apart_from (z ∷ xs) d x y (inl h) (inl k) e = sym h ∙ k
  apart_from (z ∷ xs) d x y (inl h) (inr k) e = absurd (d.0 (subst (λ (b : B). Has (map f xs) b) (sym e ∙ sym (ap f h)) (Has-map f xs y k)))
  apart_from (z ∷ xs) d x y (inr h) (inl k) e = absurd (d.0 (subst (λ (b : B). Has (map f xs) b) (e ∙ sym (ap f k)) (Has-map f xs x h)))
  apart_from (z ∷ xs) d x y (inr h) (inr k) e = apart_from xs d.1 x y h k e

-- numbers at different places of a list without repeats differ
pub apart_at : (ns : List ℕ) (k j : ℕ) → IsDistinct ns → k < j → j < length ns → ¬ (get_or ns k 0 ≡ get_or ns j 0)
apart_at [] k j d less low e = absurd (omega arith)
apart_at (n ∷ ns) k zero d less low e = absurd (omega arith)
apart_at (n ∷ ns) zero (suc j) d less low e = d.0 (subst (λ (m : ℕ). Has ns m) (sym e) (Has-get_or ns j 0 (omega arith)))
apart_at (n ∷ ns) (suc k) (suc j) d less low e = apart_at ns k j d.1 (omega arith) (omega arith) e

-- the place of the first element
pub place_here : (m n : ℕ) (ms : List ℕ) → m ≡ n → place (m ∷ ms) n ≡ 0
place_here m n ms e = cond-true (eqb m n) 0 (suc (place ms n)) (eq-eqb m n e)

-- the place of another one
pub place_later : (m n : ℕ) (ms : List ℕ) → ¬ (m ≡ n) → place (m ∷ ms) n ≡ suc (place ms n)
place_later m n ms ne = cond-false (eqb m n) 0 (suc (place ms n)) (ne_eqb m n ne)

-- two numbers are equal or differ
pub same_or_not : (m n : ℕ) → (m ≡ n) ⊎ (¬ (m ≡ n))
same_or_not m n = elim (cases_Bool (eqb m n)) [ inl e ↦ inl (eqb-true m n e) | inr ne ↦ inr (λ e. false≢true (sym ne ∙ eq-eqb m n e)) ]

-- at one place stands one number
pub same_place : (ns : List ℕ) (m n : ℕ) → Has ns m → place ns m ≡ place ns n → m ≡ n
same_place [] m n h e = absurd h
same_place (k ∷ ns) m n h e =
    let zero_first : (k ≡ m) → (¬ (k ≡ n)) → m ≡ n = λ a b. let p = place_here k m ns a in let q = place_later k n ns b in absurd (omega arith) in
    let first_zero : (¬ (k ≡ m)) → (k ≡ n) → m ≡ n = λ a b. let p = place_later k m ns a in let q = place_here k n ns b in absurd (omega arith) in
    let both : (¬ (k ≡ m)) → (¬ (k ≡ n)) → place ns m ≡ place ns n = λ a b. let p = place_later k m ns a in let q = place_later k n ns b in omega arith in
    let there : (¬ (k ≡ m)) → Has ns m = λ a. elim h [ inl here ↦ absurd (a here) | inr in_it ↦ in_it ] in
    let on : Has ns m → place ns m ≡ place ns n → m ≡ n = same_place ns m n in
    elim (same_or_not k m) [ inl a ↦ elim (same_or_not k n) [ inl b ↦ sym a ∙ b | inr b ↦ zero_first a b ] | inr a ↦ elim (same_or_not k n) [ inl b ↦ first_zero a b | inr b ↦ on (there a) (both a b) ] ]

-- what stands in the front of a list has an earlier place than what doesn't
pub front_first : (front back : List ℕ) (m n : ℕ) → Has front m → ¬ (Has front n) → place (front ++ back) m < place (front ++ back) n
front_first [] back m n h out = absurd h
front_first (k ∷ front) back m n h out =
    let later = place_later k n (front ++ back) (λ e. out (inl e)) in
    let on : Has front m → place (front ++ back) m < place (front ++ back) n = λ there. front_first front back m n there (λ in_it. out (inr in_it)) in
    elim (same_or_not k m) [ inl e ↦ let here = place_here k m (front ++ back) e in omega arith | inr ne ↦ let one_later = place_later k m (front ++ back) ne in let less = on (elim h [ inl here ↦ absurd (ne here) | inr there ↦ there ]) in omega arith ]
