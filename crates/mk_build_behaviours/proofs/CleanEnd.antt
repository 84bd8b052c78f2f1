-- A clean build of some of the goals gives what the clean build of all goals gave.
use Rattle.std.proofs.Common.{◌≡◌, ℕ, List, [], ◌∷◌, true, false, Some, reverse, ◌⊎◌, inl, inr, ⊎_elim, refl, sym, ◌∙◌, subst}
use Rattle.std.proofs.lemmas.Bool.{cases_Bool, cond-true, cond-false, true≢false}
use Rattle.mk_graph.specs.Membership.{Has}
use Rattle.mk_graph.specs.Graph.{Graph, node, IsGraph}
use Rattle.mk_graph.specs.Schedules.{CanStart, IsSchedule, IsPart}
use Rattle.mk_build.specs.Setting.{FileName, Setting, is_given, reads, writes}
use Rattle.mk_build.specs.Clean.{Contents, put_all}
use Rattle.mk_build.specs.Right.{AreSound, HaveNoRace}
use Rattle.mk_build.proofs.Sound.{writer_has_recipe, writer_is_before}
use Rattle.mk_build.proofs.CleanEnd.{cases_among}
use Rattle.mk_build_behaviours.specs.Behaviours.{Behaviours, behaviour, result}
use Rattle.mk_build_behaviours.specs.CleanBy.{run_by, make_all_by}
use Rattle.mk_build_behaviours.proofs.Paths.{same_walk}
use Rattle.mk_build_behaviours.proofs.Putting.{put_all_again, put_all_keeps}
use Rattle.mk_build_behaviours.proofs.CleanContents.{IsClean, make_one_more}

module _ (g : Graph) (s : Setting) (b : Behaviours) (graph : IsGraph g) (sound : AreSound g s) (no_race : HaveNoRace g s)
    (given clean : Contents) (all : List ℕ) (is : IsClean g s b given clean all)
    (among : (t : ℕ) → (node g t).recipe ≡ true → Has all t)
    (goals : List ℕ) (part : IsPart goals g.goals)
    (base : Contents) (base_is : (f : FileName) → is_given s f ≡ true → base f ≡ clean f) where
  -- the contents are clean in given files and in what these nodes write
  abbrev Agrees : Contents → List ℕ → Type 0
  Agrees at ns = (f : FileName) → (is_given s f ≡ true) ⊎ ((o : ℕ) × Has ns o × Has (writes g s o) f) → at f ≡ clean f

  -- the clean build of these nodes agrees
  abbrev pub BuildAgrees : List ℕ → Type 0
  BuildAgrees ns = (at : Contents) × (make_all_by g s b (Some base) (reverse ns) ≡ Some at) × Agrees at ns

  module _ (n : ℕ) (ns : List ℕ) (may : CanStart g goals ns n) (turns : IsSchedule g goals ns) (before : BuildAgrees ns) where
    -- a node without a recipe
    agrees_without : (node g n).recipe ≡ false → BuildAgrees (n ∷ ns)
    agrees_without e = (
      before.0,
      make_one_more g s b base ns n before.0 before.1
          ∙ cond-false (node g n).recipe (run_by g s b before.0 n) (Some before.0) e,
      λ f why. ⊎_elim (λ given. before.2 f (inl given))
          (λ wrote. ⊎_elim (λ here. absurd (true≢false (sym
          (writer_has_recipe g s n f (subst (λ (k : ℕ). Has (writes g s k) f) (sym here) wrote.2)) ∙ e)))
          (λ there. before.2 f (inr (wrote.0, there, wrote.2))) wrote.1) why,
    )

    module _ (recipe : (node g n).recipe ≡ true) where
      -- its recipe reads clean contents
      reads_clean : (f : FileName) → Has (reads g s n) f → before.0 f ≡ clean f
      reads_clean f read = before.2 f (⊎_elim (λ given. inl given) (λ wrote. inr (wrote.0, writer_is_before g s graph sound no_race n wrote.0 f read wrote.1 recipe goals ns part turns may, wrote.1)) (sound.known n f read))

      -- so its result is clean
      result_clean : result (behaviour g b n) clean ≡ result (behaviour g b n) before.0
      result_clean = (same_walk (behaviour g b n) clean before.0 (λ f on_clean on_before. sym (reads_clean f (is.within n (among n recipe) recipe f on_clean)))).1

      -- what it writes
      agrees_with : BuildAgrees (n ∷ ns)
      agrees_with =
          let made = is.made n (among n recipe) recipe in
          let put = put_all_again (writes g s n) (result (behaviour g b n) clean) made.0 made.1 before.0 made.2 in
          let ran : run_by g s b before.0 n ≡ Some put.0 = subst (λ (l : List ℕ). put_all before.0 (writes g s n) l ≡ Some put.0) result_clean put.1 in (
            put.0,
            make_one_more g s b base ns n before.0 before.1
                ∙ (cond-true (node g n).recipe (run_by g s b before.0 n) (Some before.0) recipe ∙ ran),
            λ f why. ⊎_elim (λ own. sym (put.2 f (inr own)) ∙ sym (made.3 f own))
                (λ out. put_all_keeps (writes g s n) (result (behaviour g b n) clean) before.0 put.0 put.1 f out
                ∙ before.2 f (⊎_elim (λ given. inl given)
                (λ wrote. ⊎_elim (λ here. absurd (out (subst (λ (k : ℕ). Has (writes g s k) f) (sym here) wrote.2)))
                (λ there. inr (wrote.0, there, wrote.2)) wrote.1) why))
                (cases_among (writes g s n) f),
          )

  -- the clean build of a schedule agrees
  pub build_agrees : (ns : List ℕ) → IsSchedule g goals ns → BuildAgrees ns
  build_agrees [] turns = (base, refl, λ f why. ⊎_elim (λ given. base_is f given) (λ wrote. absurd wrote.1) why)
  build_agrees (n ∷ ns) turns =
      let before = build_agrees ns turns.1 in
      ⊎_elim (λ recipe. agrees_with n ns turns.0 turns.1 before recipe) (λ none. agrees_without n ns turns.0 turns.1 before none) (cases_Bool (node g n).recipe)
