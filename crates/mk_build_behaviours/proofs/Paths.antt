-- What a behaviour reads and writes over contents that agree along its path.
use Rattle.std.proofs.Common.{◌≡◌, ℕ, List, ◌∷◌, Option, Some, None, inl, inr, refl, ◌∙◌, ap, subst}
use Rattle.std.specs.Prelude.{IfSome}
use Rattle.mk_graph.specs.Membership.{Has}
use Rattle.mk_build.specs.Setting.{FileName}
use Rattle.mk_build.specs.Clean.{Contents}
use Rattle.mk_build_behaviours.specs.Behaviours.{Behaviour, Read, Write, path, result}

-- where files on both paths have the same contents, the paths and the results are the same
pub same_walk : (b : Behaviour) (one other : Contents) → ((f : FileName) → Has (path b one) f → Has (path b other) f → one f ≡ other f) → (path b one ≡ path b other) × (result b one ≡ result b other)
same_walk (Read f next) one other same =
    let here : one f ≡ other f = same f (inl refl) (inl refl) in
    let rest = same_walk (next (one f)) one other (λ h on_one on_other. same h (inr on_one) (inr (subst (λ (k : Option ℕ). Has (path (next k) other) h) here on_other))) in
    (ap (λ (l : List FileName). f ∷ l) (rest.0 ∙ ap (λ (k : Option ℕ). path (next k) other) here), rest.1 ∙ ap (λ (k : Option ℕ). result (next k) other) here)
same_walk (Write contents) one other same = (refl, refl)

-- what holds of whatever is there holds if something is
pub if_some_from : {A : Type 0} (o : Option A) (P : A → Type 0) → ((a : A) → o ≡ Some a → P a) → IfSome o P
if_some_from None P h = tt
if_some_from (Some a) P h = h a refl
