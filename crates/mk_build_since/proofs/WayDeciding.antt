-- Whether a recipe has a way for a file: a chain leads to recipes that run earlier, so it has an end.
use Rattle.std.proofs.Common.{◌≡◌, ℕ, List, [], ◌∷◌, length, true, ◌⊎◌, inl, inr, ⊎_elim, refl, sym, ◌∙◌, subst}
use Rattle.std.proofs.lemmas.Bool.{cases_Bool, true≢false}
use Rattle.mk_graph.specs.Membership.{Has}
use Rattle.mk_graph.specs.Graph.{Graph, node, prerequisites, IsGraph, Reached, goal, onward}
use Rattle.mk_graph.specs.Schedules.{HasAll, IsSchedule, IsPart}
use Rattle.mk_graph.proofs.Nodes.{recipe_is_node}
use Rattle.mk_build.specs.Setting.{FileName, Setting, is_editable, name, writes, HasDirectPrerequisite, IsAlwaysMade}
use Rattle.mk_build.specs.Ways.{Way, over, written, source, always, Carries}
use Rattle.mk_build.specs.Right.{AreSound}
use Rattle.mk_build.proofs.Changes.{cases_name}
use Rattle.mk_build.proofs.CleanEnd.{cases_among}
use Rattle.mk_build.proofs.Sound.{writer_has_recipe, carried_is_before}
use Rattle.mk_build_behaviours.proofs.Present.{all_nodes, all_turns, all_recipes}
use Rattle.mk_build_since.proofs.Deciding.{Cases, first_below, first_among, cases_always}

module _ (g : Graph) (s : Setting) (graph : IsGraph g) (sound : AreSound g s) (part : IsPart g.goals g.goals) (f : FileName) where
  -- one recipe carries another or not
  cases_carries : (t o : ℕ) → Cases (Carries g s t o)
  cases_carries t o =
      ⊎_elim (λ found. inl (found.0, found.1, found.2)) (λ none. inr (λ carries. none carries.0 carries.1 carries.2)) (first_among (λ p. Has (writes g s o) (name g p)) (λ p. cases_among (writes g s o) (name g p)) (prerequisites g t))

  -- the file is a direct prerequisite or not
  cases_direct : (t : ℕ) → Cases (HasDirectPrerequisite g t f)
  cases_direct t =
      ⊎_elim (λ found. inl (found.0, found.1, found.2)) (λ none. inr (λ need. none need.0 need.1 need.2)) (first_among (λ p. name g p ≡ f) (λ p. cases_name (name g p) f) (prerequisites g t))

  -- a recipe that is carried writes the file or has a way
  abbrev Leads : ℕ → ℕ → Type 0
  Leads t o = Carries g s t o × (Has (writes g s o) f ⊎ Way g s f o)

  module _ (n : ℕ) (decide : (o : ℕ) → Carries g s n o → Cases (Way g s f o)) where
    cases_leads : (o : ℕ) → Cases (Leads n o)
    cases_leads o =
        ⊎_elim (λ carries. ⊎_elim (λ wrote. inl (carries, inl wrote))
        (λ not_wrote. ⊎_elim (λ way. inl (carries, inr way)) (λ no_way. inr (λ leads. ⊎_elim not_wrote no_way leads.1)) (decide o carries))
        (cases_among (writes g s o) f))
        (λ not_carries. inr (λ leads. not_carries leads.0))
        (cases_carries n o)

    from_lead : (o : ℕ) → Leads n o → Way g s f n
    from_lead o leads = ⊎_elim (λ wrote. written o leads.0 wrote) (λ way. over o leads.0 way) leads.1

    -- none leads there
    no_lead : ((o : ℕ) → ¬ (Leads n o)) → ¬ (IsAlwaysMade g n) → ¬ ((is_editable s f ≡ true) × HasDirectPrerequisite g n f) → ¬ (Way g s f n)
    no_lead none sometimes no_source (over o carries way) = none o (carries, inr way)
    no_lead none sometimes no_source (written o carries wrote) = none o (carries, inl wrote)
    no_lead none sometimes no_source (source can need) = no_source (can, need)
    no_lead none sometimes no_source (always made) = sometimes made

    cases_source : Cases ((is_editable s f ≡ true) × HasDirectPrerequisite g n f)
    cases_source =
        ⊎_elim (λ can. ⊎_elim (λ need. inl (can, need)) (λ not. inr (λ both. not both.1)) (cases_direct n)) (λ fixed. inr (λ both. true≢false (sym both.0 ∙ fixed))) (cases_Bool (is_editable s f))

    leads_below : ((o : ℕ) × Leads n o) ⊎ ((o : ℕ) → ¬ (Leads n o))
    leads_below =
        ⊎_elim (λ found. inl found) (λ none. inr (λ o leads. none o (recipe_is_node g o (writer_has_recipe g s o (name g leads.0.0) leads.0.2)) leads)) (first_below (Leads n) cases_leads (length g.nodes))

    cases_here : Cases (Way g s f n)
    cases_here =
        ⊎_elim (λ made. inl (always made))
        (λ sometimes. ⊎_elim (λ direct. inl (source direct.0 direct.1))
        (λ no_source. ⊎_elim (λ found. inl (from_lead found.0 found.1)) (λ none. inr (no_lead none sometimes no_source)) leads_below)
        cases_source)
        (cases_always g n)

  -- each recipe of a schedule has one or not
  cases_turns : (ns : List ℕ) → IsSchedule g g.goals ns → (t : ℕ) → Has ns t → (node g t).recipe ≡ true → Cases (Way g s f t)
  cases_turns [] turns t there recipe = absurd there
  cases_turns (n ∷ ns) turns t (inr there) recipe = cases_turns ns turns.1 t there recipe
  cases_turns (n ∷ ns) turns t (inl here) recipe =
      subst (λ (k : ℕ). (node g k).recipe ≡ true → Cases (Way g s f k)) here
      (λ n_recipe. cases_here n (λ o carries. cases_turns ns turns.1 o (carried_is_before g s graph sound n o carries n_recipe g.goals ns part turns.1 turns.0) (writer_has_recipe g s o (name g carries.0) carries.2)))
      recipe

  cases_way_of : (t : ℕ) → (node g t).recipe ≡ true → Cases (Way g s f t)
  cases_way_of t recipe = cases_turns (all_nodes g graph) (all_turns g graph) t (all_recipes g graph s sound t recipe) recipe

-- there are goals where something is reached
has_goals : (g : Graph) {n : ℕ} → Reached g n → ¬ (g.goals ≡ [])
has_goals g (goal {n = n} h) none = subst (λ (l : List ℕ). Has l n) none h
has_goals g (onward more h) none = has_goals g more none

-- all goals are a part of them
pub all_goals : (g : Graph) {n : ℕ} → Reached g n → IsPart g.goals g.goals
all_goals g reached = record { not_empty = has_goals g reached; within = all_in g.goals g.goals (λ n h. h) } where
  all_in : (ns ms : List ℕ) → ((n : ℕ) → Has ms n → Has ns n) → HasAll ns ms
  all_in ns [] h = tt
  all_in ns (m ∷ ms) h = (h m (inl refl), all_in ns ms (λ n there. h n (inr there)))

-- a recipe has a way for a file or not
pub cases_way : (g : Graph) (s : Setting) → IsGraph g → AreSound g s → (t : ℕ) (f : FileName) → (node g t).recipe ≡ true → Cases (Way g s f t)
cases_way g s graph sound t f recipe = cases_way_of g s graph sound (all_goals g (graph.sound.reached t (recipe_is_node g t recipe))) f t recipe
