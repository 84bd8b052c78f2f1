-- Files and recipes that a step changes, and those that it leaves.
use Rattle.std.proofs.Common.{◌≡◌, ℕ, false, ◌⊎◌, inl, inr, ⊎_elim, sym, ◌∙◌, eq-eqb}
use Rattle.std.specs.Prelude.{bytes_eq, nat_eq}
use Rattle.std.proofs.lemmas.Bool.{cases_Bool, cond-true, cond-false, false_from_ne_true, false≢true, ne_eqb}
use Rattle.std.proofs.lemmas.Slice.Eq.{bytes_eq-Decides}
use Rattle.mk_build.specs.Setting.{FileName}
use Rattle.mk_build.specs.World.{changed}
use Rattle.mk_build.specs.Steps.{changed_at}

-- two names are equal or not
pub cases_name : (f h : FileName) → (f ≡ h) ⊎ (¬ (f ≡ h))
cases_name f h = ⊎_elim (λ e. inl ((bytes_eq-Decides f h).0 e)) (λ e. inr (λ same. false≢true (sym e ∙ (bytes_eq-Decides f h).1 same))) (cases_Bool (bytes_eq f h))

-- a test of names that differ
bytes_ne : (f h : FileName) → ¬ (f ≡ h) → bytes_eq f h ≡ false
bytes_ne f h differ = false_from_ne_true (bytes_eq f h) (λ e. differ ((bytes_eq-Decides f h).0 e))

module _ {A : Type 0} where
  -- the file that is changed
  pub changed_here : (at : FileName → A) (f h : FileName) (new : A) → f ≡ h → changed at f new h ≡ new
  changed_here at f h new same = cond-true (bytes_eq f h) new (at h) ((bytes_eq-Decides f h).1 same)

  -- another one
  pub changed_there : (at : FileName → A) (f h : FileName) (new : A) → ¬ (f ≡ h) → changed at f new h ≡ at h
  changed_there at f h new differ = cond-false (bytes_eq f h) new (at h) (bytes_ne f h differ)

  -- the recipe that is changed
  pub changed_at_here : (at : ℕ → A) (t o : ℕ) (new : A) → t ≡ o → changed_at at t new o ≡ new
  changed_at_here at t o new same = cond-true (nat_eq t o) new (at o) (eq-eqb t o same)

  -- another one
  pub changed_at_there : (at : ℕ → A) (t o : ℕ) (new : A) → ¬ (t ≡ o) → changed_at at t new o ≡ at o
  changed_at_there at t o new differ = cond-false (nat_eq t o) new (at o) (ne_eqb t o differ)
