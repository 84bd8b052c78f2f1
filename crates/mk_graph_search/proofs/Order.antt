-- Ways in their order.
use Rattle.std.proofs.Common.{◌≡◌, ℕ, ◌<◌, List, [], ◌∷◌, ◌⊎◌, inl, inr, refl, sym, ◌∙◌, ap, subst, arith}
use Rattle.std.proofs.Math.Nat.{eq-or-lt_of_le}
use Rattle.std.proofs.lemmas.Bool.{cases_lt}
use Rattle.mk_graph.specs.Membership.{Has}
use Rattle.mk_graph_search.specs.Ways.{end, IsWay, place, Precedes}
use Rattle.mk_graph_search.proofs.Lists.{same_place}

module _ (succ : ℕ → List ℕ) (t : ℕ) where
  -- what precedes one that precedes a third one precedes that
  pub before_trans : (p q r : List ℕ) → Precedes succ t p q → Precedes succ t q r → Precedes succ t p r
  before_trans [] [] r h k = absurd h
  before_trans [] (n ∷ q) [] h k = absurd k
  before_trans [] (n ∷ q) (o ∷ r) h k = tt
  before_trans (m ∷ p) [] r h k = absurd h
  before_trans (m ∷ p) (n ∷ q) [] h k = absurd k
  before_trans (m ∷ p) (n ∷ q) (o ∷ r) (inl h) (inl k) = inl (before_trans p q r h k)
  before_trans (m ∷ p) (n ∷ q) (o ∷ r) (inl h) (inr k) = inl (subst (λ (w : List ℕ). Precedes succ t p w) k.0 h)
  before_trans (m ∷ p) (n ∷ q) (o ∷ r) (inr h) (inl k) = inl (subst (λ (w : List ℕ). Precedes succ t w r) (sym h.0) k)
  before_trans (m ∷ p) (n ∷ q) (o ∷ r) (inr h) (inr k) =
      let on : place (succ (end t p)) n < place (succ (end t p)) o = subst (λ (w : List ℕ). place (succ (end t w)) n < place (succ (end t w)) o) (sym h.0) k.1 in
      inr (h.0 ∙ k.0, omega (arith, h.1))

  -- none precedes itself
  pub before_none : (p : List ℕ) → ¬ (Precedes succ t p p)
  before_none [] h = h
  before_none (m ∷ p) (inl h) = before_none p h
  before_none (m ∷ p) (inr h) = let less = h.1 in omega arith

  -- no two precede each other
  pub before_once : (p q : List ℕ) → Precedes succ t p q → ¬ (Precedes succ t q p)
  before_once p q h k = before_none p (before_trans p q p h k)

  -- what precedes one precedes what is no earlier than that
  pub before_later : (p q r : List ℕ) → Precedes succ t p q → (q ≡ r) ⊎ Precedes succ t q r → Precedes succ t p r
  before_later p q r h (inl e) = subst (λ (w : List ℕ). Precedes succ t p w) e h
  before_later p q r h (inr k) = before_trans p q r h k

  -- no later than one that is no later than a third one
  pub no_later_trans : (p q r : List ℕ) → (p ≡ q) ⊎ Precedes succ t p q → (q ≡ r) ⊎ Precedes succ t q r → (p ≡ r) ⊎ Precedes succ t p r
  no_later_trans p q r (inl e) k = subst (λ (w : List ℕ). (w ≡ r) ⊎ Precedes succ t w r) (sym e) k
  no_later_trans p q r (inr h) k = inr (before_later p q r h k)

  -- one step more on both sides
  pub one_step_on : (n : ℕ) (p q : List ℕ) → (p ≡ q) ⊎ Precedes succ t p q → (n ∷ p ≡ n ∷ q) ⊎ Precedes succ t (n ∷ p) (n ∷ q)
  one_step_on n p q (inl e) = inl (ap (λ (w : List ℕ). n ∷ w) e)
  one_step_on n p q (inr h) = inr (inl h)

  -- of two numbers one is less, or they are equal
  compared : (a b : ℕ) → (a ≡ b) ⊎ ((a < b) ⊎ (b < a))
  compared a b = elim (cases_lt a b) [ inl less ↦ inr (inl less) | inr not_less ↦ elim (eq-or-lt_of_le not_less) [ inl same ↦ inl (sym same) | inr more ↦ inr (inr more) ] ]

  -- of two ways that differ one precedes the other
  pub in_one_order : (p q : List ℕ) → IsWay succ t p → IsWay succ t q → (p ≡ q) ⊎ (Precedes succ t p q ⊎ Precedes succ t q p)
  in_one_order [] [] v w = inl refl
  in_one_order [] (n ∷ q) v w = inr (inl tt)
  in_one_order (m ∷ p) [] v w = inr (inr tt)
  in_one_order (m ∷ p) (n ∷ q) v w =
      elim (in_one_order p q v.1 w.1) [ inl e ↦ turned m n p q e v.0 (compared (place (succ (end t p)) m) (place (succ (end t p)) n)) | inr (inl h) ↦ inr (inl (inl h)) | inr (inr h) ↦ inr (inr (inl h)) ]
    where
      turned : (m n : ℕ) (p q : List ℕ) → p ≡ q → Has (succ (end t p)) m
          → (place (succ (end t p)) m ≡ place (succ (end t p)) n)
          ⊎ ((place (succ (end t p)) m < place (succ (end t p)) n)
          ⊎ (place (succ (end t p)) n < place (succ (end t p)) m)) → (m ∷ p ≡ n ∷ q)
          ⊎ (Precedes succ t (m ∷ p) (n ∷ q) ⊎ Precedes succ t (n ∷ q) (m ∷ p))
      turned m n p q e has_m (inl same) = inl ((λ i. same_place (succ (end t p)) m n has_m same i ∷ e i))
      turned m n p q e has_m (inr (inl less)) = inr (inl (inr (e, less)))
      turned m n p q e has_m (inr (inr more)) = inr (inr (inr (sym e, subst (λ (w : List ℕ). place (succ (end t w)) n < place (succ (end t w)) m) e more)))
