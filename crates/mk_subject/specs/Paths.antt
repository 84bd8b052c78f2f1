-- Ways as lists: paths of recipes, each of which carries the next, with how they end.
use Rattle.std.specs.Prelude.{◌≡◌, ℕ, List, [], ◌∷◌, true}
use Rattle.mk_cert_text.specs.declared.certificate.Finish.{Finish}
use Rattle.mk_cert_text.specs.declared.certificate.Finish.TheVariants.{Written, Source, Always}
use Rattle.mk_graph.specs.Graph.{Graph}
use Rattle.mk_graph.specs.Membership.{Has}
use Rattle.mk_build.specs.Setting.{FileName, Setting, is_editable, writes, HasDirectPrerequisite, IsAlwaysMade}
use Rattle.mk_build.specs.Ways.{Carries}

-- From t on, each recipe of the list is carried by the one before it.
abbrev pub AreCarried : Graph → Setting → ℕ → List ℕ → Type 0
AreCarried g s t [] = Unit {0}
AreCarried g s t (o ∷ others) = Carries g s t o × AreCarried g s o others

-- The last recipe of a path from t over these others.
abbrev pub last_of : ℕ → List ℕ → ℕ
last_of t [] = t
last_of t (o ∷ others) = last_of o others

-- How a path may end at recipe t: `Written`, t writes the file; `Source`, the file is editable and
-- a direct prerequisite of t; `Always`, t is made in each make.
abbrev pub EndsAt : Graph → Setting → FileName → Finish → ℕ → Type 0
EndsAt g s f Written t = Has (writes g s t) f
EndsAt g s f Source t = (is_editable s f ≡ true) × HasDirectPrerequisite g t f
EndsAt g s f Always t = IsAlwaysMade g t

-- A path leads from t over these others to the file: each carries the next, the last one meets
-- `finish`, and with `Written` the last one isn't t itself.
pub record IsPath (g : Graph) (s : Setting) (f : FileName) (finish : Finish) (t : ℕ)
    (others : List ℕ) : Type 0 where
  pub carried : AreCarried g s t others
  pub ends : EndsAt g s f finish (last_of t others)
  pub not_alone : finish ≡ Written → ¬ (others ≡ [])
