-- The order of ways as it is read: shorter, or as long and turning off earlier.
use Rattle.std.proofs.Common.{◌≡◌, ℕ, ◌<◌, List, [], ◌∷◌, ◌++◌, length, ◌⊎◌, inl, inr, refl, sym, ap, subst, arith}
use Rattle.mk_graph_search.specs.Ways.{end, place, Precedes}
use Rattle.mk_graph_search.specs.Laws.{TurnsOffEarlier, PrecedesAsRead}

module _ (succ : ℕ → List ℕ) (t : ℕ) where
  -- one step more
  one_more : (m n : ℕ) (p q : List ℕ) → (length p < length q) ⊎ TurnsOffEarlier succ t p q → (length (m ∷ p) < length (n ∷ q)) ⊎ TurnsOffEarlier succ t (m ∷ p) (n ∷ q)
  one_more m n p q (inl less) = inl (omega arith)
  one_more m n p q (inr turns) =
      inr (record {
        common = turns.common;
        m = turns.m;
        n = turns.n;
        rest = m ∷ turns.rest;
        other_rest = n
            ∷ turns.other_rest;
        one_is = ap (λ (w : List ℕ). m ∷ w) turns.one_is;
        other_is = ap
            (λ (w : List ℕ). n ∷ w) turns.other_is;
        equally_long = (let e = turns.equally_long in omega arith);
        earlier = turns.earlier;
      })

  -- from the order
  read : (p q : List ℕ) → Precedes succ t p q → (length p < length q) ⊎ TurnsOffEarlier succ t p q
  read [] [] h = absurd h
  read [] (n ∷ q) h = inl (omega arith)
  read (m ∷ p) [] h = absurd h
  read (m ∷ p) (n ∷ q) (inl h) = one_more m n p q (read p q h)
  read (m ∷ p) (n ∷ q) (inr h) =
      inr (record { common = p; m = m; n = n; rest = []; other_rest = []; one_is = refl; other_is = ap (λ (w : List ℕ). n ∷ w) (sym h.0); equally_long = refl; earlier = h.1 })

  -- a shorter one precedes
  shorter : (p q : List ℕ) → length p < length q → Precedes succ t p q
  shorter [] [] h = absurd (omega arith)
  shorter [] (n ∷ q) h = tt
  shorter (m ∷ p) [] h = absurd (omega arith)
  shorter (m ∷ p) (n ∷ q) h = inl (shorter p q (omega arith))

  -- one that turns off earlier precedes
  turned : (common : List ℕ) (m n : ℕ) (rest other_rest : List ℕ) → length rest ≡ length other_rest → place (succ (end t common)) m < place (succ (end t common)) n → Precedes succ t (rest ++ m ∷ common) (other_rest ++ n ∷ common)
  turned common m n [] [] e less = inr (refl, less)
  turned common m n [] (y ∷ ys) e less = absurd (omega arith)
  turned common m n (x ∷ xs) [] e less = absurd (omega arith)
  turned common m n (x ∷ xs) (y ∷ ys) e less = inl (turned common m n xs ys (omega arith) less)

  -- to the order
  from_read : (p q : List ℕ) → (length p < length q) ⊎ TurnsOffEarlier succ t p q → Precedes succ t p q
  from_read p q (inl less) = shorter p q less
  from_read p q (inr turns) =
      let h = turned turns.common turns.m turns.n turns.rest turns.other_rest turns.equally_long turns.earlier in
      let k = subst (λ (w : List ℕ). Precedes succ t w (turns.other_rest ++ turns.n ∷ turns.common)) (sym turns.one_is) h in
      subst (λ (w : List ℕ). Precedes succ t p w) (sym turns.other_is) k

-- both ways
pub as_read : PrecedesAsRead
as_read succ t one other = (read succ t one other, from_read succ t one other)
