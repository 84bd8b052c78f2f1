-- Ways: how a change of a file reaches a recipe that reads it.
use Rattle.std.specs.Prelude.{◌≡◌, ℕ, true, false, ◌⊎◌}
use Rattle.mk_graph.specs.Membership.{Has}
use Rattle.mk_graph.specs.Graph.{Graph, prerequisites}
use Rattle.mk_build.specs.Setting.{FileName, Setting, is_given, is_editable, name, writes, HasDirectPrerequisite, IsAlwaysMade}

-- t carries o: o writes a direct prerequisite of t, so t is out of date once o has run.
abbrev pub Carries : Graph → Setting → (t o : ℕ) → Type 0
Carries g s t o = (p : ℕ) × Has (prerequisites g t) p × Has (writes g s o) (name g p)

-- A way from the recipe t for the file f: a chain of recipes, each of which carries the next, that
-- ends at a carried recipe that writes f, at a recipe with the editable file f as a direct
-- prerequisite, or at a recipe that is always made.
pub data Way (g : Graph) (s : Setting) (f : FileName) : ℕ → Type 0 where
  over : {t : ℕ} (o : ℕ) → Carries g s t o → Way g s f o → Way g s f t
  written : {t : ℕ} (o : ℕ) → Carries g s t o → Has (writes g s o) f → Way g s f t
  source : {t : ℕ} → is_editable s f ≡ true → HasDirectPrerequisite g t f → Way g s f t
  always : {t : ℕ} → IsAlwaysMade g t → Way g s f t

-- The file can change, so that a read of it needs a way: it is editable or isn't given.
abbrev pub CanChange : Setting → FileName → Type 0
CanChange s f = (is_editable s f ≡ true) ⊎ (is_given s f ≡ false)
