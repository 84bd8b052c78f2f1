-- What sound footprints say of the recipes that write what another one reads or needs.
use Rattle.std.proofs.Common.{◌≡◌, ℕ, List, [], true, inr, ⊎_elim, sym, ◌∙◌, subst}
use Rattle.std.specs.Prelude.{not}
use Rattle.std.proofs.lemmas.Bool.{cases_Bool, cond-false, true≢false, and_parts, or_left}
use Rattle.mk_lines.specs.Names.{has_name}
use Rattle.mk_graph.specs.Membership.{Has}
use Rattle.mk_graph.specs.Graph.{Graph, node, prerequisites, IsGraph}
use Rattle.mk_build.specs.Setting.{FileName, Setting, is_given, is_editable, name, reads, writes}
use Rattle.mk_graph.specs.Schedules.{Before}
use Rattle.mk_build.specs.Ways.{Carries, CanChange}
use Rattle.mk_build.specs.Right.{AreSound, HaveNoRace}
use Rattle.mk_graph.proofs.Turning.{HasAll-has, turn_has_prerequisites}

-- who writes a file has a recipe
pub writer_has_recipe : (g : Graph) (s : Setting) (t : ℕ) (f : FileName) → Has (writes g s t) f → (node g t).recipe ≡ true
writer_has_recipe g s t f h =
    ⊎_elim (λ e. e) (λ e. absurd (subst (λ (l : List FileName). Has l f) (cond-false (node g t).recipe (s.writes (name g t)) [] e) h)) (cases_Bool (node g t).recipe)

-- who reads one has a recipe
pub reader_has_recipe : (g : Graph) (s : Setting) (t : ℕ) (f : FileName) → Has (reads g s t) f → (node g t).recipe ≡ true
reader_has_recipe g s t f h =
    ⊎_elim (λ e. e) (λ e. absurd (subst (λ (l : List FileName). Has l f) (cond-false (node g t).recipe (s.reads (name g t)) [] e) h)) (cases_Bool (node g t).recipe)

-- an editable file is given
pub editable_is_given : (s : Setting) (f : FileName) → is_editable s f ≡ true → is_given s f ≡ true
editable_is_given s f e = or_left (has_name s.sources f) _ (and_parts (has_name s.sources f) (not (has_name s.texts f)) e).0

module _ (g : Graph) (s : Setting) (graph : IsGraph g) (sound : AreSound g s) where
  -- a recipe that is carried is before the one that it carries
  pub carried_is_before : (t o : ℕ) → Carries g s t o → Before g o t
  carried_is_before t o (p, need, writes_it) recipe goals ns part turns may =
      let here : Has ns p = HasAll-has ns (prerequisites g t) p may.prerequisites need in
      ⊎_elim (λ e. let own = sound.target p e (sound.not_phony o p writes_it) in subst (λ (k : ℕ). Has ns k)
      (sound.one_writer p o (name g p) own writes_it) here)
      (λ e. turn_has_prerequisites g goals ns p o turns here
      (sound.not_loose p o (graph.sound.edges t p need) e writes_it)) (cases_Bool (node g p).recipe)

  -- what is written can change
  pub written_can_change : (t : ℕ) (f : FileName) → Has (writes g s t) f → CanChange s f
  written_can_change t f h = inr (sound.not_given t f h)

  -- no recipe writes what is editable
  pub editable_is_not_written : (t : ℕ) (f : FileName) → is_editable s f ≡ true → ¬ (Has (writes g s t) f)
  editable_is_not_written t f e h = true≢false (sym (editable_is_given s f e) ∙ sound.not_given t f h)

  -- who writes what a recipe reads is before it, where races are none
  pub writer_is_before : HaveNoRace g s → (t o : ℕ) (f : FileName) → Has (reads g s t) f → Has (writes g s o) f → Before g o t
  writer_is_before no_race t o f read wrote = no_race t o f (λ same. sound.not_own t f read (subst (λ (k : ℕ). Has (writes g s k) f) same wrote)) read wrote
