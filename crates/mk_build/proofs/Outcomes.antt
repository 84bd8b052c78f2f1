-- Known outcomes, and one more.
use Rattle.std.proofs.Common.{◌≡◌, ℕ, List, ◌∷◌, Bool, Option, Some, None, ◌⊎◌, inl, inr, ⊎_elim, refl, sym, ◌∙◌, ap, subst}
use Rattle.std.specs.Prelude.{nat_eq, is_some, ◌&&◌, IfSome}
use Rattle.std.specs.Option.{option_eq}
use Rattle.std.specs.Bool.{Decides}
use Rattle.std.proofs.lemmas.Bool.{cases_Bool, cond-true, cond-false, and_parts, and_from, false≢true}
use Rattle.std.proofs.lemmas.Bool.Decides.{Decides-eqb}
use Rattle.std.proofs.lemmas.Slice.Eq.{slice_eq-Decides}
use Rattle.mk_build.specs.World.{Outcome, Disk, outcome, same_seen}
use Rattle.mk_build.specs.Steps.{noted}

-- the test on contents, or absences, says whether they are equal
pub option_Decides : (a b : Option ℕ) → Decides (option_eq nat_eq a b) (a ≡ b)
option_Decides None None = (λ e. refl, λ e. refl)
option_Decides None (Some y) = (λ e. absurd (false≢true e), λ e. absurd (cc))
option_Decides (Some x) None = (λ e. absurd (false≢true e), λ e. absurd (cc))
option_Decides (Some x) (Some y) = (λ e. ap (λ k. Some k) ((Decides-eqb x y).0 e), λ e. let same : x ≡ y = cc in (Decides-eqb x y).1 same)

-- the test on what was seen says whether it is the same
pub same_seen-Decides : (a b : List (Option ℕ)) → Decides (same_seen a b) (a ≡ b)
same_seen-Decides a b = slice_eq-Decides option_Decides a b (same_seen a b) refl

-- the test by which an outcome is found
abbrev finds : Outcome → ℕ → List (Option ℕ) → Bool
finds o t seen = nat_eq o.recipe t && same_seen o.seen seen

-- an outcome is found where its recipe saw this
pub outcome_here : (o : Outcome) (known : List Outcome) → outcome (o ∷ known) o.recipe o.seen ≡ Some o.written
outcome_here o known = cond-true (nat_eq o.recipe o.recipe && same_seen o.seen o.seen) (Some o.written) (outcome known o.recipe o.seen) (and_from (nat_eq o.recipe o.recipe) (same_seen o.seen o.seen) ((Decides-eqb o.recipe o.recipe).1 refl) ((same_seen-Decides o.seen o.seen).1 refl))

-- what was known stays known behind an outcome of something that wasn't
stays : (o : Outcome) (known : List Outcome) (t : ℕ) (seen : List (Option ℕ)) (written : List ℕ) → outcome known o.recipe o.seen ≡ None → outcome known t seen ≡ Some written → outcome (o ∷ known) t seen ≡ Some written
stays o known t seen written unknown e =
    ⊎_elim (λ yes. let parts = and_parts (nat_eq o.recipe t) (same_seen o.seen seen) yes in let same_recipe =
    (Decides-eqb o.recipe t).0 parts.0 in let same = (same_seen-Decides o.seen seen).0 parts.1 in let none
    : outcome known t seen ≡ None = subst (λ (k : ℕ). outcome known k seen ≡ None) same_recipe
    (subst (λ (l : List (Option ℕ)). outcome known o.recipe l ≡ None) same unknown) in let both : None
    ≡ Some written = sym none ∙ e in absurd (cc)) (λ no. cond-false
    (nat_eq o.recipe t && same_seen o.seen seen) (Some o.written) (outcome known t seen) no ∙ e)
    (cases_Bool (nat_eq o.recipe t && same_seen o.seen seen))

module _ (d : Disk) (o : Outcome) where
  -- nothing is noted where something was known
  noted_known : (w : List ℕ) → outcome d.known o.recipe o.seen ≡ Some w → (noted d o).known ≡ d.known
  noted_known w e = cond-true (is_some (outcome d.known o.recipe o.seen)) d.known (o ∷ d.known) (ap (λ (x : Option (List ℕ)). is_some x) e)

  -- else the outcome is
  pub noted_unknown : outcome d.known o.recipe o.seen ≡ None → (noted d o).known ≡ o ∷ d.known
  noted_unknown e = cond-false (is_some (outcome d.known o.recipe o.seen)) d.known (o ∷ d.known) (ap (λ (x : Option (List ℕ)). is_some x) e)

  -- an outcome is known or isn't
  pub cases_outcome : (t : ℕ) (seen : List (Option ℕ)) → (outcome d.known t seen ≡ None) ⊎ ((w : List ℕ) × (outcome d.known t seen ≡ Some w))
  cases_outcome t seen = cases (outcome d.known t seen) refl where
    cases : (x : Option (List ℕ)) → outcome d.known t seen ≡ x → (outcome d.known t seen ≡ None) ⊎ ((w : List ℕ) × (outcome d.known t seen ≡ Some w))
    cases None e = inl e
    cases (Some w) e = inr (w, e)

  -- an outcome that agrees with what was known is known when it was noted
  pub noted_new : IfSome (outcome d.known o.recipe o.seen) (λ known. known ≡ o.written) → outcome (noted d o).known o.recipe o.seen ≡ Some o.written
  noted_new agrees =
      ⊎_elim (λ none. subst (λ (l : List Outcome). outcome l o.recipe o.seen ≡ Some o.written)
      (sym (noted_unknown none)) (outcome_here o d.known)) (λ some. let same : some.0
      ≡ o.written = subst (λ (x : Option (List ℕ)). IfSome x (λ known. known ≡ o.written)) some.1 agrees
      in subst (λ (l : List Outcome). outcome l o.recipe o.seen ≡ Some o.written)
      (sym (noted_known some.0 some.1)) (some.1 ∙ ap (λ k. Some k) same)) (cases_outcome o.recipe o.seen)

  -- what was known is known
  pub noted_old : (t : ℕ) (seen : List (Option ℕ)) (written : List ℕ) → outcome d.known t seen ≡ Some written → outcome (noted d o).known t seen ≡ Some written
  noted_old t seen written e =
      ⊎_elim (λ none. subst (λ (l : List Outcome). outcome l t seen ≡ Some written) (sym (noted_unknown none)) (stays o d.known t seen written none e)) (λ some. subst (λ (l : List Outcome). outcome l t seen ≡ Some written) (sym (noted_known some.0 some.1)) e) (cases_outcome o.recipe o.seen)

  -- what is known after an outcome was noted is that outcome, or was known
  pub noted_cases : (t : ℕ) (seen : List (Option ℕ)) (written : List ℕ) → outcome (noted d o).known t seen ≡ Some written → ((o.recipe ≡ t) × (o.written ≡ written)) ⊎ (outcome d.known t seen ≡ Some written)
  noted_cases t seen written e =
      ⊎_elim (λ none. let e1 : outcome (o ∷ d.known) t seen
      ≡ Some written = subst (λ (l : List Outcome). outcome l t seen ≡ Some written) (noted_unknown none)
      e in ⊎_elim (λ yes. let same : Some o.written ≡ Some written = sym
      (cond-true (finds o t seen) (Some o.written) (outcome d.known t seen) yes)
      ∙ e1 in inl (
        (Decides-eqb o.recipe t).0 (and_parts (nat_eq o.recipe t) (same_seen o.seen seen)
            yes).0,
        cc,
      )) (λ no. inr (sym (cond-false (finds o t seen) (Some o.written) (outcome d.known t seen)
      no) ∙ e1)) (cases_Bool (finds o t seen))) (λ some. inr
      (subst (λ (l : List Outcome). outcome l t seen ≡ Some written) (noted_known some.0 some.1) e))
      (cases_outcome o.recipe o.seen)
