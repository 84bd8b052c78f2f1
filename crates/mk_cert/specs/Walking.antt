-- Walking along the names of a path.
use Rattle.std.specs.Prelude.{◌≡◌, ℕ, List, [], ◌∷◌}
use Rattle.mk_cert_text.specs.Certificate.{Way}
use Rattle.mk_cert_text.specs.declared.certificate.Finish.TheVariants.{Written}
use Rattle.mk_build.specs.Ways.{Carries}
use Rattle.mk_subject.specs.Paths.{EndsAt}
use Rattle.mk_subject.specs.Subject.{Subject, footprints, name_of, IsRecipe}

-- From recipe t, following these names leads to `last`: each name is that of a recipe that the one
-- before carries.
abbrev pub GoesOver : Subject → ℕ → List (List ℕ) → ℕ → Type 0
GoesOver x t [] last = t ≡ last
GoesOver x t (name ∷ names) last =
    (o : ℕ) × IsRecipe x o × (name_of x o ≡ name) ×
    Carries x.graph (footprints x.setting) t o × GoesOver x o names last

-- From recipe `start`, following these names leads to a recipe at which the entry's path may end.
pub record LeadsToFile (x : Subject) (start : ℕ) (names : List (List ℕ)) (w : Way) : Type 0 where
  pub last : ℕ
  pub over : GoesOver x start names last
  pub ends : EndsAt x.graph (footprints x.setting) w.file w.finish last
  pub others : w.finish ≡ Written → ¬ (names ≡ [])
