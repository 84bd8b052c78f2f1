-- Behaviours that are alike read and write alike, where no file is gone and none has come.
use Rattle.std.proofs.Common.{◌≡◌, ℕ, List, Option, None, ◌⊎◌, inl, inr, ⊎_elim, refl, sym, subst}
use Rattle.mk_graph.specs.Membership.{Has}
use Rattle.mk_build.specs.Setting.{FileName}
use Rattle.mk_build.specs.Clean.{Contents}
use Rattle.mk_build_behaviours.specs.Behaviours.{Behaviour, path, result}
use Rattle.mk_build_since.specs.Named.{Build, HasFile}
use Rattle.mk_build_since.specs.Alike.{HoldAlike, AreAlike, both, gone, came, ends}

module _ (old new : Build) (files others : List FileName) where
  -- they write the same, and the new one reads what the old one did, and what the old build doesn't have
  pub alike_walk : {p q : Behaviour} → AreAlike old new files others p q → (at : Contents) → ((f : FileName) → Has (path p at) f → HasFile new f) → ((f : FileName) → Has (path q at) f → ¬ (HasFile old f) → at f ≡ None) → HoldAlike files (result p at) others (result q at) × ((f : FileName) → Has (path q at) f → Has (path p at) f ⊎ (¬ (HasFile old f)))
  alike_walk (both {f = f} next) at known absent =
      let rest = alike_walk (next (at f)) at (λ h on. known h (inr on)) (λ h on. absent h (inr on)) in
      (rest.0, λ h on. ⊎_elim (λ here. inl (inl here)) (λ there. ⊎_elim (λ before. inl (inr before)) (λ not. inr not) (rest.1 h there)) on)
  alike_walk (gone {f = f} not next) at known absent = absurd (not (known f (inl refl)))
  alike_walk (came {f = f} {p = p} {q = q} not next) at known absent =
      let none : at f ≡ None = absent f (inl refl) not in
      let rest = alike_walk next at known (λ h on. absent h (inr (subst (λ (c : Option ℕ). Has (path (q c) at) h) (sym none) on))) in (
        subst (λ (c : Option ℕ). HoldAlike files (result p at) others (result (q c) at)) (sym none) rest.0,
        λ h on. ⊎_elim (λ here. inr (subst (λ (k : FileName). ¬ (HasFile old k)) here not)) (λ there. rest.1 h (subst (λ (c : Option ℕ). Has (path (q c) at) h) none there)) on,
      )
  alike_walk (ends same) at known absent = (same, λ h on. inl on)
