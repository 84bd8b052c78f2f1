-- What stands behind a number.
use Rattle.std.proofs.Common.{◌≡◌, ℕ, zero, suc, ◌+◌, ◌<◌, Bool, true, false, cond, List, [], ◌∷◌, length, get_or, drop, add-one, refl, sym, ap, subst, ◌∙◌, inr, arith}
use Rattle.std.specs.Prelude.{filter, ◌==◌}
use Rattle.std.proofs.lemmas.Bool.{true≢false, eqb-true, eq-eqb}
use Rattle.mk_lemmas.proofs.Members.{Has-get_or}
use Rattle.mk_graph.specs.Membership.{Has, IsDistinct}
use Rattle.mk_find.specs.NodeChecks.{behind}

-- what stands behind a number stands in the list, and is another one where none stands twice
in_step : (o n : ℕ) (ns : List ℕ) (t : ℕ) (b : Bool) → (Has (behind o ns) t → Has ns t) → Has (cond b ns (behind o ns)) t → Has ns t
in_step o n ns t true more h = h
in_step o n ns t false more h = more h

pub behind_in : (o : ℕ) (ns : List ℕ) (t : ℕ) → Has (behind o ns) t → Has ns t
behind_in o [] t h = h
behind_in o (n ∷ ns) t h = inr (in_step o n ns t (n == o) (behind_in o ns t) h)

other_step : (o n : ℕ) (ns : List ℕ) (t : ℕ) (b : Bool) → (n == o) ≡ b → ¬ (Has ns n) → (Has (behind o ns) t → ¬ (o ≡ t)) → Has (cond b ns (behind o ns)) t → ¬ (o ≡ t)
other_step o n ns t true e out more h same = out (subst (λ (k : ℕ). Has ns k) (sym (eqb-true n o e ∙ same)) h)
other_step o n ns t false e out more h same = more h same

pub behind_other : (o : ℕ) (ns : List ℕ) (t : ℕ) → IsDistinct ns → Has (behind o ns) t → ¬ (o ≡ t)
behind_other o [] t distinct h = absurd h
behind_other o (n ∷ ns) t distinct h = other_step o n ns t (n == o) refl distinct.0 (behind_other o ns t distinct.1) h

-- of those that pass a test, as the number does
filter_step : (p : ℕ → Bool) (o n : ℕ) (ns : List ℕ) (same passes : Bool) → (n == o) ≡ same → p n ≡ passes → p o ≡ true → behind o (filter p ns) ≡ filter p (behind o ns)
    → behind o (cond passes (n ∷ filter p ns) (filter p ns)) ≡ filter p (cond same ns (behind o ns))
filter_step p o n ns true true e f t more = rw e refl
filter_step p o n ns true false e f t more = absurd (true≢false (sym t ∙ (ap p (sym (eqb-true n o e)) ∙ f)))
filter_step p o n ns false true e f t more = rw e more
filter_step p o n ns false false e f t more = more

pub behind_filter : (p : ℕ → Bool) (o : ℕ) (ns : List ℕ) → p o ≡ true → behind o (filter p ns) ≡ filter p (behind o ns)
behind_filter p o [] t = refl
behind_filter p o (n ∷ ns) t = filter_step p o n ns (n == o) (p n) refl refl t (behind_filter p o ns t)

at_step : (n o : ℕ) (ns rest : List ℕ) (b : Bool) → (n == o) ≡ b → ¬ (n ≡ o) → behind o ns ≡ rest → cond b ns (behind o ns) ≡ rest
at_step n o ns rest true e differ more = absurd (differ (eqb-true n o e))
at_step n o ns rest false e differ more = more

pub behind_at : (ns : List ℕ) (i : ℕ) → IsDistinct ns → i < length ns → behind (get_or ns i 0) ns ≡ drop (suc i) ns
behind_at [] i distinct h = absurd (omega arith)
behind_at (n ∷ ns) zero distinct h = rw (eq-eqb n n refl) refl
behind_at (n ∷ ns) (suc i) distinct h =
    at_step n (get_or ns i 0) ns (drop (suc i) ns) (n == get_or ns i 0) refl (λ same. distinct.0 (subst (λ (k : ℕ). Has ns k) (sym same) (Has-get_or ns i 0 (omega arith)))) (behind_at ns i distinct.1 (omega arith))

pub behind_after : (ns : List ℕ) (i : ℕ) → IsDistinct ns → i < length ns → behind (get_or ns i 0) ns ≡ drop (i + 1) ns
behind_after ns i distinct low = rw add-one (behind_at ns i distinct low)
