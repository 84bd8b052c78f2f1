-- Makes in progress, in lists and as the model has them.
use Rattle.std.proofs.Common.{◌≡◌, ℕ, zero, suc, ◌+◌, ◌<◌, Bool, true, false, ◌||◌, List, [], ◌∷◌, ◌++◌, length, refl, sym, ap, ◌∙◌, arith, inl, inr, get_or, set, subst, nat_eq, true≢false, take, ◌⊎◌}
use Rattle.std.specs.Prelude.{replicate, ◌↔◌}
use Rattle.std.specs.List.{list_any}
use Rattle.std.proofs.lemmas.List.{get_or-set_same, get_or-set_other, get_or_default, take_more}
use Rattle.std.proofs.lemmas.Bool.{cases_Bool, eqb-true, eq-eqb, cond-true, cond-false}
use Rattle.mk_graph.specs.Membership.{Has}
use Rattle.mk_build.specs.Steps.{changed_at}
use Rattle.mk_world.specs.State.{RunState, no_run, run_at}

-- what the test finds stands in the list
pub listed : (ns : List ℕ) (n : ℕ) → (list_any (λ m. nat_eq m n) ns ≡ true) ↔ Has ns n
listed [] n = (λ e. absurd cc, λ h. absurd h)
listed (m ∷ ns) n = at (nat_eq m n) refl (listed ns n)
  where
    at : (b : Bool) → nat_eq m n ≡ b → ((list_any (λ k. nat_eq k n) ns ≡ true) ↔ Has ns n) → ((b || list_any (λ k. nat_eq k n) ns) ≡ true) ↔ Has (m ∷ ns) n
    at true e ih = (λ t. inl (eqb-true m n e), λ h. refl)
    at false e ih = (λ t. inr (ih.0 t), λ h. elim h [ inl is ↦ absurd (true≢false (sym (eq-eqb m n is) ∙ e)) | inr r ↦ ih.1 r ])

-- one more of the same at the end
pub replicate_push : {A : Type 0} (n : ℕ) (x : A) → replicate (n + 1) x ≡ replicate n x ++ x ∷ []
replicate_push zero x = refl
replicate_push (suc n) x =
    let more : suc n + 1 ≡ suc (n + 1) = omega arith in
    ap (λ k. replicate k x) more ∙ ap (λ xs. x ∷ xs) (replicate_push n x)

-- what a change of one element leaves at each number
pub changed_run : {A B : Type 0} (F : ℕ → A → B) (d : A) (xs : List A) (t : ℕ) (x : A) → t < length xs → (n : ℕ) → F n (get_or (set xs t x) n d) ≡ changed_at (λ m. F m (get_or xs m d)) t (F t x) n
changed_run F d xs t x lt n = elim (cases_Bool (nat_eq t n)) [
  | inl e ↦
      let is : t ≡ n = eqb-true t n e in
      subst (λ k. F k (get_or (set xs t x) k d) ≡ F t x) is (ap (F t) (get_or-set_same xs t x d lt)) ∙ sym (cond-true (nat_eq t n) (F t x) (F n (get_or xs n d)) e)
  | inr e ↦
      let apart : ¬ (n ≡ t) = λ is. true≢false (sym (eq-eqb t n (sym is)) ∙ e) in
      ap (F n) (get_or-set_other xs t n x d apart) ∙ sym (cond-false (nat_eq t n) (F t x) (F n (get_or xs n d)) e)
]

-- the run at a number
pub run_is : (runs : List RunState) (t : ℕ) (run : RunState) → t < length runs → run ≡ get_or runs t run → run ≡ run_at runs t
run_is runs t run lt e = e ∙ get_or_default runs t run no_run lt

-- what stands among the first ones and one more
pub one_more : (xs : List ℕ) (i : ℕ) (p : ℕ) → i < length xs → Has (take (i + 1) xs) p → Has (take i xs) p ⊎ (get_or xs i 0 ≡ p)
one_more xs i p lt h = last (take i xs) (get_or xs i 0) (subst (λ (l : List ℕ). Has l p) (take_more xs i 0 lt) h)
  where
    last : (ys : List ℕ) (y : ℕ) → Has (ys ++ y ∷ []) p → Has ys p ⊎ (y ≡ p)
    last [] y k = elim k [ inl e ↦ inr e | inr none ↦ absurd none ]
    last (z ∷ ys) y k = elim k [ inl e ↦ inl (inl e) | inr r ↦ elim (last ys y r) [ inl there ↦ inl (inr there) | inr e ↦ inr e ] ]
