-- The first of a list of which something holds, part by part.
use Rattle.std.proofs.Common.{◌≡◌, List, [], ◌∷◌, ◌++◌, Bool, true, false, cond, map, inl, inr, ⊎_elim, refl, subst}
use Rattle.std.specs.Prelude.{filter}
use Rattle.mk_graph.specs.Membership.{Has}
use Rattle.mk_find.specs.Listing.{IsFirstIn}

module _ {A : Type 0} where
  -- it holds of none
  abbrev pub NoneOf : (A → Type 0) → List A → Type 0
  NoneOf P xs = (x : A) → Has xs x → ¬ (P x)

  -- the first of a part, and of what stands behind a part without one
  pub first_in : (P : A → Type 0) (part rest : List A) (x : A) → IsFirstIn P part x → IsFirstIn P (part ++ rest) x
  first_in P [] rest x h = absurd h
  first_in P (y ∷ part) rest x (inl here) = inl here
  first_in P (y ∷ part) rest x (inr (not, more)) = inr (not, first_in P part rest x more)

  pub first_behind : (P : A → Type 0) (part rest : List A) (x : A) → NoneOf P part → IsFirstIn P rest x → IsFirstIn P (part ++ rest) x
  first_behind P [] rest x none h = h
  first_behind P (y ∷ part) rest x none h = inr (none y (inl refl), first_behind P part rest x (λ z stands. none z (inr stands)) h)

  pub none_of_both : (P : A → Type 0) (part rest : List A) → NoneOf P part → NoneOf P rest → NoneOf P (part ++ rest)
  none_of_both P [] rest none others x h = others x h
  none_of_both P (y ∷ part) rest none others x (inl here) = none x (inl here)
  none_of_both P (y ∷ part) rest none others x (inr there) = none_of_both P part rest (λ z stands. none z (inr stands)) others x there

  -- what is left of a list decides
  pub record Left (P : A → Type 0) (rest all : List A) : Type 0 where
    pub first : (x : A) → IsFirstIn P rest x → IsFirstIn P all x
    pub none : NoneOf P rest → NoneOf P all

  pub left_all : (P : A → Type 0) (all : List A) → Left P all all
  left_all P all = record { first = λ x h. h; none = λ h. h }

  pub left_on : (P : A → Type 0) (x : A) (rest all : List A) → Left P (x ∷ rest) all → ¬ (P x) → Left P rest all
  left_on P x rest all left not = record {
    first = λ y h. left.first y (inr (not, h));
    none = λ h. left.none (λ y stands. ⊎_elim (λ here. subst (λ (z : A). ¬ (P z)) here not) (λ there. h y there) stands);
  }

  pub left_here : (P : A → Type 0) (x : A) (rest all : List A) → Left P (x ∷ rest) all → P x → IsFirstIn P all x
  left_here P x rest all left holds = left.first x (inl (holds, refl))

  pub left_part : (P : A → Type 0) (part rest all : List A) → Left P (part ++ rest) all → NoneOf P part → Left P rest all
  left_part P part rest all left none = record {
    first = λ y h. left.first y (first_behind P part rest y none h);
    none = λ h. left.none (none_of_both P part rest none h);
  }

  pub left_in : (P : A → Type 0) (part rest all : List A) (x : A) → Left P (part ++ rest) all → IsFirstIn P part x → IsFirstIn P all x
  left_in P part rest all x left h = left.first x (first_in P part rest x h)

  pub left_none : (P : A → Type 0) (all : List A) → Left P [] all → NoneOf P all
  left_none P all left = left.none (λ x h. absurd h)

module _ {A B : Type 0} (P : B → Type 0) (read : A → B) where
  -- where it can hold of those alone that pass a test, these decide
  passing_step : (p : A → Bool) (a : A) (xs : List A) (b : Bool) → p a ≡ b → (p a ≡ false → ¬ (P (read a))) → Left P (map read (filter p xs)) (map read xs) → Left P (map read (cond b (a ∷ filter p xs) (filter p xs))) (read a ∷ map read xs)
  passing_step p a xs true e none left = record {
    first = λ y h. ⊎_elim (λ here. inl here) (λ later. inr (later.0, left.first y later.1)) h;
    none = λ h y stands. ⊎_elim (λ here. h y (inl here)) (λ there. left.none (λ z more. h z (inr more)) y there) stands;
  }
  passing_step p a xs false e none left = record {
    first = λ y h. inr (none e, left.first y h);
    none = λ h y stands. ⊎_elim (λ here. subst (λ (z : B). ¬ (P z)) here (none e)) (λ there. left.none h y there) stands;
  }

  pub left_passing : (p : A → Bool) (xs : List A) → ((a : A) → p a ≡ false → ¬ (P (read a))) → Left P (map read (filter p xs)) (map read xs)
  left_passing p [] none = left_all P []
  left_passing p (a ∷ xs) none = passing_step p a xs (p a) refl (none a) (left_passing p xs none)
